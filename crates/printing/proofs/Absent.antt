-- The first entry that does not exist, as it is looked for.
use Rattle.std.proofs.Common.{◌≡◌, ℕ, suc, ◌<◌, Bool, true, false, cond, not, ltb, List, [], ◌∷◌, length, Some, None, Ok, Err, Option, refl, ap, ◌∙◌, ◌+◌, arith}
use Rattle.std.proofs.lemmas.Bool.{lt-ltb}
use Rattle.std.specs.Prelude.{position}
use Rattle.std.specs.List.{prefix_len}
use Rattle.tables.specs.Table.{Table}
use Rattle.tables.specs.Files.{told}
use Rattle.unfolding.specs.declared.Press.{Press}
use Rattle.printing.specs.Refusal.{exists, first_absent, no_such_entry, fault_of_entries}

count_step : {n m : ℕ} (b : Bool) → n ≡ m → cond (not (not b)) (1 + n) 0 ≡ cond b (suc m) 0
count_step true e = omega arith
count_step false e = refl

module _ (t : Table) where
  same_count : (es : List Press) → prefix_len (λ e. not (not (exists t e))) es ≡ first_absent t es
  same_count [] = refl
  same_count (e ∷ es) = count_step (exists t e) (same_count es)

  first_is : (es : List Press) (o : Option ℕ) → o ≡ position (λ e. not (exists t e)) es → o ≡ cond (ltb (first_absent t es) (length es)) (Some (first_absent t es)) None
  first_is es o e = e ∙ ap (λ (n : ℕ). cond (ltb n (length es)) (Some n) None) (same_count es)

  faulted : (b : Bool) (es : List Press) (o : Option ℕ) → o ≡ cond b (Some (first_absent t es)) None → (n : ℕ) → o ≡ Some n → Some (no_such_entry n) ≡ cond b (Some (no_such_entry (first_absent t es))) None
  faulted true es o e n is = let same : n ≡ first_absent t es = cc in ap (λ (k : ℕ). Some (no_such_entry k)) same
  faulted false es o e n is = let clash : ◌≡◌ {A = ℕ} 0 1 = cc in absurd (omega arith)

  unfaulted : (b : Bool) (es : List Press) (o : Option ℕ) → o ≡ cond b (Some (first_absent t es)) None → o ≡ None → None ≡ cond b (Some (no_such_entry (first_absent t es))) None
  unfaulted true es o e is = let clash : ◌≡◌ {A = ℕ} 0 1 = cc in absurd (omega arith)
  unfaulted false es o e is = refl

  module _ (es : List Press) (lead_in : ℕ) (h : lead_in < length es) (o : Option ℕ) (e : o ≡ position (λ x. not (exists t x)) es) where
    pub absent_refused : (n : ℕ) → o ≡ Some n → Err (no_such_entry n) ≡ told (fault_of_entries t lead_in es)
    absent_refused n is =
        rw (lt-ltb lead_in (length es) h) (ap told (faulted (ltb (first_absent t es) (length es)) es o (first_is es o e) n is))

    pub none_absent : o ≡ None → Ok tt ≡ told (fault_of_entries t lead_in es)
    none_absent is =
        rw (lt-ltb lead_in (length es) h) (ap told (unfaulted (ltb (first_absent t es) (length es)) es o (first_is es o e) is))
