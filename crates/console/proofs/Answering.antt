-- Answers line by line, and what is printed for a file.
use Rattle.std.proofs.Common.{◌≡◌, ℕ, ◌≤◌, Bool, true, false, cond, ltb, List, [], ◌∷◌, ◌++◌, length, take, Some, None, Ok, Err, decimal, Option, sym, refl, ap, ◌∙◌, subst, arith, lit<}
use Rattle.std.proofs.lemmas.Fmt.{length-decimal-le}
use Rattle.std.proofs.lemmas.List.{append_assoc, append-nil}
use Rattle.std.proofs.lemmas.Bool.{ltb-true}
use Rattle.faults.specs.declared.Fault.{Fault}
use Rattle.tables.specs.Table.{Table}
use Rattle.tables.specs.Files.{fault_of, file_table, file_name, told}
use Rattle.tables.specs.Layers.{barred}
use Rattle.printing.specs.declared.answer.Answer.TheVariants.{Refused}
use Rattle.printing.specs.Text.{text}
use Rattle.printing.proofs.Putting.{no_fault}
use Rattle.console.specs.Answers.{AnswersLine, Answers, no_lines, line_by_line, Prints, bad_file, good_file}
use Rattle.console.specs.Lines.{lines_of}
use Rattle.console.specs.Rooms.{Brief}

-- one line more
pub answers_more : (t : Table) (names : ℕ → List ℕ) (all left later : List (List ℕ)) (line out out' bytes : List ℕ) → left ≡ line ∷ later → AnswersLine t names line bytes → out' ≡ out ++ bytes
    → ((rest : List ℕ) → Answers t names left rest → Answers t names all (out ++ rest)) → (rest : List ℕ) → Answers t names later rest → Answers t names all (out' ++ rest)
answers_more t names all left later line out out' bytes first right e so_far rest others =
    let P : List (List ℕ) → Type 0 = λ ls. Answers t names ls (bytes ++ rest) in
    let joins : out ++ (bytes ++ rest) ≡ out' ++ rest = sym (append_assoc out bytes rest) ∙ ap (λ (l : List ℕ). l ++ rest) (sym e) in
    subst (Answers t names all) joins (so_far (bytes ++ rest) (subst P (sym first) (line_by_line line later bytes rest right others)))

-- no line is left
pub answers_all : (t : Table) (names : ℕ → List ℕ) (all left : List (List ℕ)) (out : List ℕ) → left ≡ [] → ((rest : List ℕ) → Answers t names left rest → Answers t names all (out ++ rest)) → Answers t names all out
answers_all t names all left out none so_far =
    let P : List (List ℕ) → Type 0 = λ ls. Answers t names ls [] in
    subst (Answers t names all) (append-nil out) (so_far [] (subst P (sym none) no_lines))

-- the names of a file are short
pub brief_names : (m : ℕ) → m ≤ 64 → Brief (file_name m)
brief_names m h e = go (ltb e m) refl
  where
    go : (b : Bool) → ltb e m ≡ b → length (cond b (69 ∷ decimal e) []) ≤ 8
    go true x =
        let below = ltb-true e m x in
        let two = length-decimal-le 2 e (lit< tt) (omega arith) (omega arith) in
        omega arith
    go false x = omega arith

the_fault : (o : Option Fault) (fault : Fault) → Err fault ≡ told o → o ≡ Some fault
the_fault None fault e = let clash : ◌≡◌ {A = ℕ} 0 1 = cc in absurd (omega arith)
the_fault (Some other) fault e = cc

module _ (file bytes : List ℕ) (t : Table) (front : bytes ≡ take 4096 file) (opens : t ≡ file_table bytes) where
  pub prints_answers : (input lines out : List ℕ) (u : Unit {0}) → Ok u ≡ told (fault_of bytes) → lines ≡ take 4096 input
      → Answers (barred 0 t) (file_name t.events) (lines_of lines) out → Prints (take 4096 file) (take 4096 input) out
  prints_answers input lines out u e x a =
      let P : Table → Type 0 = λ s. Answers (barred 0 s) (file_name s.events) (lines_of lines) out in
      let Q : List ℕ → Type 0 = λ b. Prints b lines out in
      let R : List ℕ → Type 0 = λ l. Prints (take 4096 file) l out in
      subst R x (subst Q front (good_file (sym (no_fault (fault_of bytes) u e)) (subst P opens a)))

  pub prints_fault : (input out : List ℕ) (fault : Fault) → Err fault ≡ told (fault_of bytes) → out ≡ text (file_name t.events) (Refused fault) → Prints (take 4096 file) (take 4096 input) out
  prints_fault input out fault e x =
      let P : Table → Type 0 = λ s. out ≡ text (file_name s.events) (Refused fault) in
      let Q : List ℕ → Type 0 = λ b. Prints b (take 4096 input) out in
      subst Q front (bad_file fault (the_fault (fault_of bytes) fault e) (subst P opens x))
