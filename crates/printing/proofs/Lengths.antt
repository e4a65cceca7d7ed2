-- How long texts get, for those who lend a list that is always long enough.
use Rattle.std.proofs.Common.{◌≡◌, ℕ, zero, suc, ◌+◌, ◌-◌, ◌*◌, ◌^◌, ◌<◌, ◌≤◌, Bool, true, false, cond, ◌&&◌, ltb, List, [], ◌∷◌, ◌++◌, length, Some, None, decimal, refl, arith, lit<, Bor}
use Rattle.std.proofs.lemmas.Fmt.{length-decimal-le}
use Rattle.std.proofs.lemmas.List.{length-append}
use Rattle.std.proofs.lemmas.Bool.{ltb-true, ltb-false}
use Rattle.std.specs.List.{flat_map}
use Rattle.faults.specs.Numbers.{cause_number}
use Rattle.faults.specs.declared.Cause.{Cause}
use Rattle.faults.specs.declared.Cause.TheVariants.{TextTooLong, UnexpectedByte, TextTooShort, TooManyOperators, FileTooShort, BadMark, BadRecord, TrailingBytes, NoSuchArgument, BadLeadIn, DrawingFull, AlreadyJoined, NotJoined, TooManyNodes, ListTooShort, NoStart}
use Rattle.faults.specs.declared.Fault.{Fault}
use Rattle.tables.specs.Table.{Table}
use Rattle.unfolding.specs.declared.Press.{Press}
use Rattle.judge.specs.Answer.{bad_lead_in}
use Rattle.printing.specs.Refusal.{first_absent, no_such_entry, fault_of_entries}
use Rattle.printing.specs.Text.{number_line, entry_line, text}
use Rattle.printing.specs.declared.answer.Answer.TheVariants.{Holds, Refused, Broken}
use Rattle.printing.proofs.Figures.{few_digits}
use Rattle.printing.proofs.Left.{at_place}

cause_small : (c : Cause) → cause_number c < 100
cause_small TextTooLong = lit< tt
cause_small UnexpectedByte = lit< tt
cause_small TextTooShort = lit< tt
cause_small TooManyOperators = lit< tt
cause_small FileTooShort = lit< tt
cause_small BadMark = lit< tt
cause_small BadRecord = lit< tt
cause_small TrailingBytes = lit< tt
cause_small NoSuchArgument = lit< tt
cause_small BadLeadIn = lit< tt
cause_small DrawingFull = lit< tt
cause_small AlreadyJoined = lit< tt
cause_small NotJoined = lit< tt
cause_small TooManyNodes = lit< tt
cause_small ListTooShort = lit< tt
cause_small NoStart = lit< tt

number_length : (letter m n : ℕ) → length (number_line letter m n) ≡ length (decimal m) + length (decimal n) + 4
number_length letter m n = omega (arith, length-append (decimal m) (32 ∷ (decimal n ++ (10 ∷ []))), length-append (decimal n) (10 ∷ []))

pub holds_length : (names : ℕ → List ℕ) → length (text names Holds) ≡ 2
holds_length names = omega arith

pub refused_length : (names : ℕ → List ℕ) (fault : Fault) → fault.place < 2 ^ 64 → length (text names (Refused fault)) ≤ 26
refused_length names fault h =
    let small = cause_small fault.cause in
    let m = length-decimal-le 2 (cause_number fault.cause) (lit< tt) (omega arith) (omega arith) in
    let n = few_digits fault.place h in
    let line = number_line 82 (cause_number fault.cause) fault.place in
    omega (arith, m, n, number_length 82 (cause_number fault.cause) fault.place, length-append line [])

entry_length : (names : ℕ → List ℕ) (e : Press) → e.state < 65536 → length (names e.event) ≤ 8 → length (entry_line names e) ≤ 15
entry_length names e h k =
    omega (arith, length-decimal-le 5 e.state (lit< tt) (omega arith) (omega arith), length-append (decimal e.state) (32 ∷ (names e.event ++ (10 ∷ []))), length-append (names e.event) (10 ∷ []))

module _ (names : ℕ → List ℕ) (brief : (e : ℕ) → length (names e) ≤ 8) where
  entries_length : (es : List Press) → ((i : ℕ) → i < length es → (at_place es i).state < 65536) → length (flat_map (entry_line names) es) ≤ 15 * length es
  entries_length [] h = omega arith
  entries_length (e ∷ es) h =
      let first = entry_length names e (h 0 (omega arith)) (brief e.event) in
      let rest = entries_length es (λ i l. h (suc i) (omega arith)) in
      omega (arith, first, rest, length-append (entry_line names e) (flat_map (entry_line names) es))

  -- entries with states below 65,536, and numbers of at most 10 digits
  pub broken_length : (lead_in : ℕ) (entries : Bor (List Press)) → ((i : ℕ) → i < length entries.now → (at_place entries.now i).state < 65536)
      → lead_in < 10 ^ 10 → length entries.now < 10 ^ 10 → length (text names (Broken lead_in entries)) ≤ 24 + 15 * length entries.now
  broken_length lead_in entries h u n =
      let loop = length entries.now - lead_in in
      let line = number_line 66 lead_in loop in
      omega (arith, entries_length entries.now h, number_length 66 lead_in loop, length-decimal-le 10 lead_in (lit< tt) u (omega arith), length-decimal-le 10 loop (lit< tt) (omega arith) (omega arith), length-append line (flat_map (entry_line names) entries.now))

first_existing : (t : Table) (e : Press) (es : List Press) → suc (length es) ≤ first_absent t (e ∷ es) → (e.state < t.states) × (length es ≤ first_absent t es)
first_existing t e es h = go (ltb e.state t.states) (ltb e.event t.events) refl h
  where
    go : (a b : Bool) → ltb e.state t.states ≡ a → suc (length es) ≤ cond (a && b) (suc (first_absent t es)) 0 → (e.state < t.states) × (length es ≤ first_absent t es)
    go true true x k = (ltb-true e.state t.states x, omega arith)
    go true false x k = absurd (omega arith)
    go false b x k = absurd (omega arith)

-- where no entry is absent, each has a state of the table
pub existing : (t : Table) (es : List Press) → length es ≤ first_absent t es → (i : ℕ) → i < length es → (at_place es i).state < t.states
existing t [] h i l = absurd (omega arith)
existing t (e ∷ es) h zero l = (first_existing t e es h).0
existing t (e ∷ es) h (suc i) l = existing t es (first_existing t e es h).1 i (omega arith)

-- what an answer with no fault keeps
pub unfaulted : (t : Table) (lead_in : ℕ) (es : List Press) → fault_of_entries t lead_in es ≡ None → (lead_in < length es) × (length es ≤ first_absent t es)
unfaulted t lead_in es e = go (ltb lead_in (length es)) (ltb (first_absent t es) (length es)) refl refl e
  where
    go : (a b : Bool) → ltb lead_in (length es) ≡ a → ltb (first_absent t es) (length es) ≡ b → cond a (cond b (Some (no_such_entry (first_absent t es))) None) (Some (bad_lead_in (length es))) ≡ None → (lead_in < length es) × (length es ≤ first_absent t es)
    go true false x y z = (ltb-true lead_in (length es) x, ltb-false (first_absent t es) (length es) y)
    go true true x y z = let clash : ◌≡◌ {A = ℕ} 0 1 = cc in absurd (omega arith)
    go false b x y z = let clash : ◌≡◌ {A = ℕ} 0 1 = cc in absurd (omega arith)
