-- A worked text, that of `B 0 1` and `0 Return`.
use Rattle.std.proofs.Common.{◌≡◌, ℕ, ◌-◌, List, [], ◌∷◌, ◌++◌, length, codes, ap, ◌∙◌, Bor}
use Rattle.std.specs.List.{flat_map}
use Rattle.std.specs.Fmt.{digits}
use Rattle.unfolding.specs.declared.Press.{Press}
use Rattle.printing.specs.Text.{number_line, entry_line, text}
use Rattle.printing.specs.declared.answer.Answer.TheVariants.{Broken}

pub example : (names : ℕ → List ℕ) (entries : Bor (List Press)) → names 3 ≡ codes "Return" → entries.now ≡ record { state = 0; event = 3 } ∷ []
    → text names (Broken 0 entries) ≡ codes "B 0 1" ++ (10 ∷ (codes "0 Return" ++ (10 ∷ [])))
unfolding digits
example names entries name is =
    ap (λ (es : List Press). number_line 66 0 (length es - 0) ++ flat_map (entry_line names) es) is ∙ ap (λ (n : List ℕ). 66 ∷ 32 ∷ 48 ∷ 32 ∷ 49 ∷ 10 ∷ 48 ∷ 32 ∷ ((n ++ (10 ∷ [])) ++ [])) name
