use Rattle.std.proofs.Common.{◌≡◌, ℕ, ◌≤◌, List, Ok, Err, Result, arith}
use Rattle.std.specs.Result.{result_unwrap_or}
use Rattle.faults.specs.declared.Fault.{Fault}
use Rattle.tables.specs.Files.{Room, Exist, Ordered, filed, file_table}
use Rattle.tables.proofs.Filed.{bad_file, good_file, layout_exist, layout_ordered, layout_room}
use Rattle.drawings.specs.Read.{Outlined}
use Rattle.drawings.specs.declared.checks.Outline.{Outline}
use Rattle.drawings.proofs.file.File.new.Goals as goal

record Kept (bytes : List ℕ) (o : Outline) : Type 0 where
  few : o.states ≤ 4096
  most : o.events ≤ 64
  room : Room bytes o.states o.presses
  exist : Exist bytes o.states o.events o.presses
  ordered : Ordered bytes o.states o.presses
  table : filed bytes o.states o.events o.presses ≡ file_table bytes

-- a bad file has no states, events and presses
kept : (bytes : List ℕ) (r : Result Outline Fault) → Outlined bytes r → Kept bytes (result_unwrap_or r record { states = 0; events = 0; presses = 0 })
kept bytes (Ok o) (good, y) =
    record {
      few = y.few_states;
      most = y.few_events;
      room = layout_room _ _ _ _ y;
      exist = layout_exist _ _ _ _ y;
      ordered = layout_ordered _ _ _ _ y;
      table = good_file bytes o.states o.events o.presses y good;
    }
kept bytes (Err f) bad =
    record { few = omega arith; most = omega arith; room = omega arith; exist = λ k h. absurd (omega arith); ordered = λ j k a h. absurd (omega arith); table = bad_file bytes bad }

pub invariant_of-result : goal.invariant_of-result
invariant_of-result g c =
    let outlined = rw c.as_slice.ensures at c.read_file.ensures in
    let k = rw (← c.unwrap_or-outline.ensures) at (kept (g.B.AsSlice.items c.args.bytes) c.read_file.result outlined) in
    record { few = k.few; most = k.most; room = k.room; exist = k.exist; ordered = k.ordered }

pub returns : goal.returns
returns g c =
    let outlined = rw c.as_slice.ensures at c.read_file.ensures in
    let k = rw (← c.unwrap_or-outline.ensures) at (kept (g.B.AsSlice.items c.args.bytes) c.read_file.result outlined) in
    k.table
