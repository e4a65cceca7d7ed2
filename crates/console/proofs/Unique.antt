-- A line has one right answer, but for the lasso that breaks its rule.
use Rattle.std.proofs.Common.{◌≡◌, ℕ, ◌<◌, ◌≤◌, ◌⊎◌, List, Err, sym, refl, subst, inl, inr, arith, Bor}
use Rattle.faults.specs.declared.Fault.{Fault}
use Rattle.formulas.specs.Formula.{Formula}
use Rattle.rules.specs.Refusal as reading
use Rattle.rules.proofs.Theorems.{one_formula_law, one_answer_law, not_both}
use Rattle.tables.specs.Table.{Table}
use Rattle.loops.specs.Answer.{Startless, no_start}
use Rattle.search.specs.Lists.{too_short}
use Rattle.unfolding.specs.declared.Press.{Press}
use Rattle.unfolding.specs.Breaks.{Breaks}
use Rattle.unfolding.specs.Presses.{entries_in}
use Rattle.unfolding.specs.Nodes.{size}
use Rattle.unfolding.specs.Pushed.{locations}
use Rattle.printing.specs.declared.answer.Answer.{Answer}
use Rattle.printing.specs.declared.answer.Answer.TheVariants.{Holds, Refused, Broken}
use Rattle.checker.specs.Answer.{NeverBroken, too_many_nodes}
use Rattle.console.specs.Answers as answers
use Rattle.console.specs.Answers.{Right}
use Rattle.console.specs.Laws.{Alike, OneAnswer}

-- the answers to a line that is the rule f
data Judged (t : Table) (f : Formula) : Answer → Type 0 where
  too_large : 262144 < size t f → Judged t f (Refused (too_many_nodes (locations f)))
  unserved : size t f ≤ 262144 → 512 < size t f → Judged t f (Refused (too_short 1))
  startless : size t f ≤ 512 → Startless t → Judged t f (Refused no_start)
  holds : size t f ≤ 512 → (Startless t → ⊥) → NeverBroken t f → Judged t f Holds
  broken : (u : ℕ) (entries : Bor (List Press)) → size t f ≤ 512 → (Startless t → ⊥) → Breaks t f (entries_in entries.now) u → Judged t f (Broken u entries)

alike : (t : Table) (f : Formula) (x y : Answer) → Judged t f x → Judged t f y → Alike x y
alike t f x y (too_large h) (too_large k) = refl
alike t f x y (too_large h) (unserved k l) = absurd (omega arith)
alike t f x y (too_large h) (startless k n) = absurd (omega arith)
alike t f x y (too_large h) (holds k s n) = absurd (omega arith)
alike t f x y (too_large h) (broken v later k s b) = absurd (omega arith)
alike t f x y (unserved h i) (too_large k) = absurd (omega arith)
alike t f x y (unserved h i) (unserved k l) = refl
alike t f x y (unserved h i) (startless k n) = absurd (omega arith)
alike t f x y (unserved h i) (holds k s n) = absurd (omega arith)
alike t f x y (unserved h i) (broken v later k s b) = absurd (omega arith)
alike t f x y (startless h n) (too_large k) = absurd (omega arith)
alike t f x y (startless h n) (unserved k l) = absurd (omega arith)
alike t f x y (startless h n) (startless k m) = refl
alike t f x y (startless h n) (holds k s m) = s n
alike t f x y (startless h n) (broken v later k s b) = s n
alike t f x y (holds h s n) (too_large k) = absurd (omega arith)
alike t f x y (holds h s n) (unserved k l) = absurd (omega arith)
alike t f x y (holds h s n) (startless k m) = s m
alike t f x y (holds h s n) (holds k r m) = tt
alike t f x y (holds h s n) (broken v later k r b) = n (entries_in later.now) v b
alike t f x y (broken u entries h s a) (too_large k) = absurd (omega arith)
alike t f x y (broken u entries h s a) (unserved k l) = absurd (omega arith)
alike t f x y (broken u entries h s a) (startless k m) = s m
alike t f x y (broken u entries h s a) (holds k r m) = m (entries_in entries.now) u a
alike t f x y (broken u entries h s a) (broken v later k r b) = tt

-- a right answer: the line is misread, or it is a rule
module _ (t : Table) (line : List ℕ) where
  Misread : Answer → Type 0
  Misread x = (fault : Fault) × (x ≡ Refused fault) × reading.Refused line fault

  Understood : Answer → Type 0
  Understood x = (f : Formula) × reading.Accepted line f × Judged t f x

  read_as : (x : Answer) → Right t line x → Misread x ⊎ Understood x
  unfolding Misread Understood
  read_as x (answers.misread fault r) = inl (fault, refl, r)
  read_as x (answers.too_large f a h) = inr (f, a, too_large h)
  read_as x (answers.unserved f a h k) = inr (f, a, unserved h k)
  read_as x (answers.startless f a h n) = inr (f, a, startless h n)
  read_as x (answers.holds f a h s n) = inr (f, a, holds h s n)
  read_as x (answers.broken f u entries a h s b n) = inr (f, a, broken u entries h s b)

  agree : (x y : Answer) → Misread x ⊎ Understood x → Misread y ⊎ Understood y → Alike x y
  unfolding Misread Understood
  agree x y (inl (f, e, r)) (inl (g, d, s)) =
      let P : Answer → Type 0 = λ a. Alike a y in
      let Q : Answer → Type 0 = λ a. Alike (Refused f) a in
      subst P (sym e) (subst Q (sym d) (one_answer_law line (Err f) (Err g) r s))
  agree x y (inl (f, e, r)) (inr (g, a, j)) = absurd (not_both line g f a r)
  agree x y (inr (f, a, j)) (inl (g, e, r)) = absurd (not_both line f g a r)
  agree x y (inr (f, a, j)) (inr (g, b, k)) =
      let P : Formula → Type 0 = λ h. Judged t h y in
      alike t f x y j (subst P (sym (one_formula_law line f g a.reads b.reads)) k)

pub one_answer : OneAnswer
one_answer t line x y r s = agree t line x y (read_as t line x r) (read_as t line y s)
