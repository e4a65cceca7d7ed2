use Rattle.std.proofs.Common.{ℕ, List, length, get_or, ap, ◌∙◌, arith, rules}
use Rattle.std.proofs.lemmas.List.Sorted.{answers_always}
use Rattle.tables.specs.Files.{press_key}
use Rattle.drawings.proofs.Finds.{press_at, how_many, records_are, found_place}
use Rattle.drawings.proofs.file.File.find.Goals as goal

pub returns : goal.returns
returns g c =
    let found = c.binary_search_by_key.ensures.position (λ (y : List ℕ). press_key y 0) (answers_always _ _ _ (λ f a r x h. search rules)) in
    let f = c.args.self.now in
    let bytes : List ℕ = g.B.AsSlice.items f.bytes in
    let xs : List (List ℕ) = c.as_chunks.result.0.now in
    let are = records_are c.as_slice-bytes.result.now bytes f.outline.states f.outline.presses _ xs c.as_slice-bytes.ensures f.room (omega arith) c.as_chunks.ensures.front in
    let long = ap length are ∙ how_many f.outline.presses _ in
    rw c.ok.ensures.value (
    found_place bytes f.outline.states f.outline.presses _ xs f.ordered long (λ i d h. ap (λ (ys : List (List ℕ)). press_key (get_or ys i d) 0) are ∙ press_at bytes d f.outline.states f.outline.presses i h)
    c.binary_search_by_key.result c.binary_search_by_key.ensures.bound found
    )
