-- Answers of a check exist in their dialogue, and the lists have room for their texts.
use Rattle.std.proofs.Common.{◌≡◌, ℕ, suc, ◌+◌, ◌*◌, ◌<◌, ◌≤◌, ltb, List, [], ◌∷◌, length, take, Some, None, Option, sym, refl, ap, ◌∙◌, subst, ⊎_elim, arith, Bor}
use Rattle.std.proofs.lemmas.List.{length-map, length-take-le}
use Rattle.std.proofs.lemmas.Bool.{lt-ltb, le-ltb, cases_lt, and_from, cond-true}
use Rattle.formulas.specs.Formula.{Formula}
use Rattle.lassos.specs.Lasso.{after}
use Rattle.rules.specs.Refusal.{Accepted}
use Rattle.tables.specs.Table.{Table, Formed}
use Rattle.loops.specs.Answer.{Startless}
use Rattle.unfolding.specs.declared.Press.{Press}
use Rattle.unfolding.specs.Breaks.{Breaks, LassoOf, state_at, event_at}
use Rattle.unfolding.specs.Presses.{entry_of, entries_in}
use Rattle.unfolding.specs.Nodes.{size}
use Rattle.unfolding.specs.Pushed.{locations}
use Rattle.printing.specs.declared.answer.Answer.{Answer}
use Rattle.printing.specs.declared.answer.Answer.TheVariants.{Holds, Refused, Broken}
use Rattle.printing.specs.Refusal.{exists, first_absent, fault_of_entries, fault_of}
use Rattle.printing.specs.Text.{text}
use Rattle.printing.proofs.Lengths.{holds_length, broken_length, existing}
use Rattle.search.specs.declared.records.Lasso.{Lasso}
use Rattle.checker.specs.Answer.{Decided, Written}
use Rattle.console.specs.Answers.{Right, holds, broken}
use Rattle.console.specs.Rooms.{Brief, Held, Tells}

same_length : (es : List Press) → length (entries_in es) ≡ length es
same_length es = length-map es entry_of

-- entries whose events lead somewhere exist
all_exist : (t : Table) (es : List Press) → ((i : ℕ) → i < length es → (state_at (entries_in es) i < t.states) × (event_at (entries_in es) i < t.events)) → first_absent t es ≡ length es
all_exist t [] h = refl
all_exist t (e ∷ es) h =
    let here = h 0 (omega arith) in
    let s = lt-ltb e.state t.states here.0 in
    let v = lt-ltb e.event t.events here.1 in
    let both = and_from (ltb e.state t.states) (ltb e.event t.events) s v in
    cond-true (exists t e) (suc (first_absent t es)) 0 both ∙ ap suc (all_exist t es (λ i l. h (suc i) (omega arith)))

module _ (t : Table) (formed : Formed t) where
  leads_existing : (s e to : ℕ) → t.next s e ≡ Some to → (s < t.states) × (e < t.events)
  leads_existing s e to h = (
    ⊎_elim (λ l. l) (λ l. let none = formed.absent_state s e l in let clash : ◌≡◌ {A = ℕ} 0 1 = cc in absurd (omega arith)) (cases_lt s t.states),
    ⊎_elim (λ l. l) (λ l. let none = formed.absent_event s e l in let clash : ◌≡◌ {A = ℕ} 0 1 = cc in absurd (omega arith)) (cases_lt e t.events),
  )

  lasso_exists : (es : List Press) (u : ℕ) → LassoOf t (entries_in es) u → first_absent t es ≡ length es
  lasso_exists es u l =
      let n = same_length es in
      all_exist t es (λ i h. leads_existing (state_at (entries_in es) i) (event_at (entries_in es) i) (state_at (entries_in es) (after (length (entries_in es)) u i)) (l.presses i (omega arith)))

  pub lasso_sound : (es : List Press) (u : ℕ) → LassoOf t (entries_in es) u → fault_of_entries t u es ≡ None
  lasso_sound es u l =
      let all = lasso_exists es u l in
      let n = same_length es in
      let within = l.within in
      let inside = lt-ltb u (length es) (omega arith) in
      let last = le-ltb (first_absent t es) (length es) (omega arith) in
      simp (inside, last)

  lasso_room : (names : ℕ → List ℕ) → Brief names → (u : ℕ) (entries : Bor (List Press)) → LassoOf t (entries_in entries.now) u → length entries.now ≤ 5120 → length (text names (Broken u entries)) ≤ 76824
  lasso_room names brief u entries l h =
      let all = lasso_exists entries.now u l in
      let n = same_length entries.now in
      let within = l.within in
      let few = formed.few_states in
      let long = broken_length names brief u entries (λ i k. let below = existing t entries.now (omega arith) i k in omega arith) (omega arith) (omega arith) in
      omega arith

  module _ (f : Formula) (old new : List Press) where
    pub held : (v : Option Lasso) → Decided t f old new v → Held v (length new)
    held None d = tt
    held (Some l) d = d.within

    lasso_of : (l : Lasso) (u : ℕ) (entries : Bor (List Press)) → Written t f old new l.lead l.len → u ≡ l.lead → entries.now ≡ take l.len new → Breaks t f (entries_in entries.now) u
    lasso_of l u entries d e x =
        let P : List Press → Type 0 = λ es. Breaks t f (entries_in es) l.lead in
        let Q : ℕ → Type 0 = λ lead. Breaks t f (entries_in entries.now) lead in
        subst Q (sym e) (subst P (sym x) d.breaks)

    count_of : (l : Lasso) (entries : Bor (List Press)) → Written t f old new l.lead l.len → entries.now ≡ take l.len new → length entries.now ≤ (locations f + 1) * size t f
    count_of l entries d x =
        let n : length entries.now ≡ length (take l.len new) = ap length x in
        let m = length-take-le l.len new d.within in
        let bound = d.bound in
        omega arith

    pub told_sound : (v : Option Lasso) (a : Answer) → Decided t f old new v → Tells v new a → fault_of t a ≡ None
    told_sound None Holds d e = refl
    told_sound None (Refused fault) d e = absurd e
    told_sound None (Broken u entries) d e = absurd e
    told_sound (Some l) Holds d e = absurd e
    told_sound (Some l) (Refused fault) d e = absurd e
    told_sound (Some l) (Broken u entries) d e = lasso_sound entries.now u (lasso_of l u entries d e.0 e.1).0

    pub told_room : (names : ℕ → List ℕ) → Brief names → (locations f + 1) * size t f ≤ 5120 → (v : Option Lasso) (a : Answer) → Decided t f old new v → Tells v new a → length (text names a) ≤ 76824
    told_room names brief few None Holds d e = omega (arith, holds_length names)
    told_room names brief few None (Refused fault) d e = absurd e
    told_room names brief few None (Broken u entries) d e = absurd e
    told_room names brief few (Some l) Holds d e = absurd e
    told_room names brief few (Some l) (Refused fault) d e = absurd e
    told_room names brief few (Some l) (Broken u entries) d e =
        let n = count_of l entries d e.1 in
        lasso_room names brief u entries (lasso_of l u entries d e.0 e.1).0 (omega arith)

    pub told_right : (line : List ℕ) → Accepted line f → size t f ≤ 512 → (Startless t → ⊥) → (v : Option Lasso) (a : Answer) → Decided t f old new v → Tells v new a → Right t line a
    told_right line accepted small some None Holds d e = holds f accepted small some d.0
    told_right line accepted small some None (Refused fault) d e = absurd e
    told_right line accepted small some None (Broken u entries) d e = absurd e
    told_right line accepted small some (Some l) Holds d e = absurd e
    told_right line accepted small some (Some l) (Refused fault) d e = absurd e
    told_right line accepted small some (Some l) (Broken u entries) d e =
        broken f u entries accepted small some (lasso_of l u entries d e.0 e.1) (count_of l entries d e.1)
