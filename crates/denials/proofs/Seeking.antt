-- What a location owes, by seeking its part in the denial.
use Rattle.std.proofs.Common.{◌≡◌, ℕ, zero, suc, ◌-◌, ◌<◌, false, List, length, Some, None, Option, sym, refl, ap, ◌∙◌, arith}
use Rattle.formulas.specs.declared.Part.{Part as Row}
use Rattle.rules.specs.declared.rule.Rule.{Rule}
use Rattle.rules.specs.Rules.{table, formula}
use Rattle.unfolding.specs.Pushed.{Part, locations, denial, temporals, own, due, owes, promising}
use Rattle.unfolding.specs.Flat.{seek}
use Rattle.unfolding.proofs.Flat.{pushed_whole}
use Rattle.unfolding.proofs.Seek.{seek_own}
use Rattle.denials.specs.declared.signed.Signed.{Signed}
use Rattle.denials.specs.declared.signed.Due.{Due}
use Rattle.denials.specs.Signs.{part_of}
use Rattle.denials.specs.Debts.{Follows, Owing}

pub denied_whole : (rule : Rule) (rows : List Row) → rows ≡ table rule → part_of (table rule) (record { index = length rows - 1; sign = false }) ≡ denial (formula rule)
denied_whole rule rows same = rw same (pushed_whole (table rule) rule.formed.operands rule.formed.some rule.formed.numbered false)

-- the whole rule, negated
module _ (rule : Rule) (whole : Signed) (denied : part_of (table rule) whole ≡ denial (formula rule)) where
  sought : (k : ℕ) → (k ≡ 0 → ⊥) → k < locations (formula rule) → (o : Option Part) → seek (part_of (table rule) whole) k ≡ o → o ≡ Some (own (temporals (denial (formula rule))) k)
  sought k n l o e = sym e ∙ ap (λ (p : Part). seek p k) denied ∙ seek_own (formula rule) k (omega arith) l

  owed : (k : ℕ) → (k ≡ 0 → ⊥) → due (own (temporals (denial (formula rule))) k) ≡ owes (formula rule) k
  owed zero n = absurd (n refl)
  owed (suc k) n = refl

  -- another, by its part
  pub owing_found : (k : ℕ) (s : Signed) (r : Due) → (k ≡ 0 → ⊥) → seek (part_of (table rule) whole) k ≡ Some (part_of (table rule) s) → Follows (table rule) s r → Owing (table rule) k r
  owing_found k s r n e f =
      record {
        is = λ l. f.is ∙ ap due (same l) ∙ owed k n;
        promises = λ l. f.promises ∙ ap promising (same l);
        within = f.within;
      }
    where
      same : k < locations (formula rule) → part_of (table rule) s ≡ own (temporals (denial (formula rule))) k
      same l = let z = sought k n l (Some (part_of (table rule) s)) e in cc

  -- past the last, whatever it is
  pub owing_none : (k : ℕ) (r : Due) → (k ≡ 0 → ⊥) → seek (part_of (table rule) whole) k ≡ None → r.part.index < length (table rule) → Owing (table rule) k r
  owing_none k r n e w =
      record { is = λ l. absurd (never l); promises = λ l. absurd (never l); within = w }
    where
      never : k < locations (formula rule) → ⊥
      never l =
          let z = sought k n l None e in
          let y : ◌≡◌ {A = ℕ} 0 1 = cc in
          omega arith
