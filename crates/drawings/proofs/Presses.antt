-- A drawing's presses, put into a list one by one.
use Rattle.std.proofs.Common.{◌≡◌, ℕ, ◌+◌, ◌*◌, ◌/◌, ◌%◌, ◌<◌, List, ◌++◌, length, take, sym, ap, ◌∙◌, arith}
use Rattle.std.specs.List.{flat_map}
use Rattle.tables.specs.Table.{Table}
use Rattle.tables.specs.Writes.{press_bytes, press_here, presses, pair_bytes, with_front}

-- the bytes of the press of a state and an event
pub pair_at : (t : Table) (s e : ℕ) → e < 16 → pair_bytes t (s * 16 + e) ≡ flat_map press_bytes (press_here s e (t.next s e))
pair_at t s e here =
    let i : ℕ = s * 16 + e in
    let state : i / 16 ≡ s = omega arith in
    let event : i % 16 ≡ e = omega arith in
    ap (λ (x : ℕ). flat_map press_bytes (press_here x (i % 16) (t.next x (i % 16)))) state
    ∙ ap (λ (y : ℕ). flat_map press_bytes (press_here s y (t.next s y))) event

-- the list, and the place behind what is put, after the presses among the first i pairs of a state and an event
abbrev pub Put : Table → List ℕ → List ℕ → ℕ → ℕ → Type 0
Put t old out at i = (out ≡ with_front (take (5 + 5 * t.states) old ++ flat_map press_bytes (presses t i)) old) × (at ≡ 5 + 5 * t.states + 7 * length (presses t i))

pub put_at : (t : Table) (old out : List ℕ) (at i j : ℕ) → i ≡ j → Put t old out at i → Put t old out at j
put_at t old out at i j is put = rw (sym is) put
