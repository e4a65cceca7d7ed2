-- A drawing's states keep the limits.
use Rattle.std.proofs.Common.{◌≡◌, ℕ, ◌^◌, ◌<◌, ◌≤◌, Bool, false, cond, ◌&&◌, eqb, ltb, Some, None, Option, ◌+◌, sym, refl, ◌∙◌, arith}
use native.Mathlib.Decide.{dec_lt}
use Rattle.std.proofs.lemmas.Bool.Decides.{nat_tests}
use Rattle.std.proofs.lemmas.Bool.{cond_both, ltb-true, ltb-false}
use Rattle.tables.proofs.Same.{same_tables}
use Rattle.tables.specs.Table.{Table, Formed}
use Rattle.tables.specs.Cells.{cells, Within}
use Rattle.tables.specs.Drawings.{appended, relabelled, redirected}

pub cells_formed : (count : ℕ) (start : ℕ → Bool) (label : ℕ → ℕ) (next : ℕ → ℕ → Option ℕ) → count ≤ 64 → ((s : ℕ) → label s < 65536) → Within count next → Formed (cells count start label next)
cells_formed count start label next few fit within =
    record {
      few_states = omega arith;
      few_events = omega arith;
      label_fits = λ s. cond_both (ltb s count) (label s) 0 (λ x. x < 2 ^ 16) (λ _. fit s) (λ _. omega arith);
      next_exists = λ s e t. cond_both (ltb s count && ltb e 16) (next s e) None (λ o. o ≡ Some t → t < count) (λ _ h. within s e t h) (λ _ h. grind arith);
      absent_start = λ s h. grind (arith, nat_tests);
      absent_label = λ s h. grind (arith, nat_tests);
      absent_state = λ s e h. grind (arith, nat_tests);
      absent_event = λ s e h. grind (arith, nat_tests);
    }

-- A table of at most 64 states and 16 events, copied answer by answer.
pub copies : (t : Table) (f : Formed t) (start : ℕ → Bool) (label : ℕ → ℕ) (next : ℕ → ℕ → Option ℕ) → t.states ≤ 64 → t.events ≡ 16
    → ((s : ℕ) → s < 64 → start s ≡ t.start s) → ((s : ℕ) → s < 64 → label s ≡ t.label s) → ((s e : ℕ) → s < 64 → e < 16 → next s e ≡ t.next s e)
    → cells t.states start label next ≡ t
copies t f start label next few events starts labels nexts =
    same_tables (cells t.states start label next) t refl (sym events)
    (λ s. cond_both (ltb s t.states) (start s) false (λ b. b ≡ t.start s) (λ lt. starts s (omega (arith, ltb-true s t.states lt))) (λ ge. sym (f.absent_start s (ltb-false s t.states ge))))
    (λ s. cond_both (ltb s t.states) (label s) 0 (λ x. x ≡ t.label s) (λ lt. labels s (omega (arith, ltb-true s t.states lt))) (λ ge. sym (f.absent_label s (ltb-false s t.states ge))))
    (λ s e. elim (dec_lt s t.states) [
      | yes h ↦ elim (dec_lt e 16) [
        | yes k ↦ let same = nexts s e (omega arith) k in grind (arith, nat_tests)
        | no k ↦ let none = f.absent_event s e (omega arith) in grind (arith, nat_tests)
      ]
      | no h ↦ let none = f.absent_state s e (omega arith) in grind (arith, nat_tests)
    ])

-- Each change of the states is the change of the table that the call asks for.
module _ (count : ℕ) (start start' : ℕ → Bool) (label label' : ℕ → ℕ) (next next' : ℕ → ℕ → Option ℕ) where
  pub appends : (mark : Bool) (number : ℕ) → ((s : ℕ) → start' s ≡ cond (eqb s count) mark (start s)) → ((s : ℕ) → label' s ≡ cond (eqb s count) number (label s))
      → ((s e : ℕ) → next' s e ≡ cond (eqb s count) None (next s e)) → cells (count + 1) start' label' next' ≡ appended (cells count start label next) number mark
  appends mark number starts labels nexts =
      same_tables _ _ refl refl (λ s. let h = starts s in grind (arith, nat_tests)) (λ s. let h = labels s in grind (arith, nat_tests)) (λ s e. let h = nexts s e in grind (arith, nat_tests))

  pub relabels : (state : ℕ) (mark : Bool) (number : ℕ) → state < count → ((s : ℕ) → start' s ≡ cond (eqb s state) mark (start s)) → ((s : ℕ) → label' s ≡ cond (eqb s state) number (label s))
      → ((s e : ℕ) → next' s e ≡ next s e) → cells count start' label' next' ≡ relabelled (cells count start label next) state number mark
  relabels state mark number here starts labels nexts =
      same_tables _ _ refl refl (λ s. let h = starts s in grind (arith, nat_tests)) (λ s. let h = labels s in grind (arith, nat_tests)) (λ s e. let h = nexts s e in grind (arith, nat_tests))

  pub redirects : (from event : ℕ) (to : Option ℕ) → from < count → event < 16 → ((s : ℕ) → start' s ≡ start s) → ((s : ℕ) → label' s ≡ label s)
      → ((s e : ℕ) → next' s e ≡ cond (eqb s from && eqb e event) to (next s e)) → cells count start' label' next' ≡ redirected (cells count start label next) from event to
  redirects from event to here known starts labels nexts =
      same_tables _ _ refl refl (λ s. let h = starts s in grind (arith, nat_tests)) (λ s. let h = labels s in grind (arith, nat_tests)) (λ s e. let h = nexts s e in grind (arith, nat_tests))

pub redirects_within : (count : ℕ) (next next' : ℕ → ℕ → Option ℕ) (from event : ℕ) (to : Option ℕ) → ((t : ℕ) → to ≡ Some t → t < count)
    → ((s e : ℕ) → next' s e ≡ cond (eqb s from && eqb e event) to (next s e)) → Within count next → Within count next'
redirects_within count next next' from event to exists nexts within s e t is =
    cond_both (eqb s from && eqb e event) to (next s e) (λ o. o ≡ Some t → t < count) (λ _ h. exists t h) (λ _ h. within s e t h) (sym (nexts s e) ∙ is)
