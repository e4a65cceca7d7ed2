-- When a formula is true at a position of a lasso of labels. Position i_0 is i itself, and i_(k + 1) the one after i_k.
-- On a lasso of n labels every later position is among i_0 .. i_(n - 1), so k runs from 0 to n - 1.
use Rattle.std.specs.Prelude.{ℕ, zero, suc, ◌/◌, ◌%◌, ◌^◌, Bool, true, false, not, ◌&&◌, ◌||◌, List, length, ◌==◌, slice_index}
use Rattle.formulas.specs.declared.Prefix.{Prefix}
use Rattle.formulas.specs.declared.Prefix.TheVariants.{Not, Next, Finally, Globally}
use Rattle.formulas.specs.declared.Infix.{Infix}
use Rattle.formulas.specs.declared.Infix.TheVariants.{Implies, Or, And, Until, Release}
use Rattle.formulas.specs.Formula.{Formula, constant, letter, unary, binary}
use Rattle.lassos.specs.Lasso.{after, later}

-- whether letter a stands in a label: letter 0 is bit 0, the lowest
abbrev pub has : ℕ → ℕ → Bool
has label a = label / 2 ^ a % 2 == 1

-- some k below n, every k below n
abbrev pub some : ℕ → (ℕ → Bool) → Bool
some zero p = false
some (suc n) p = p n || some n p

abbrev pub every : ℕ → (ℕ → Bool) → Bool
every zero p = true
every (suc n) p = p n && every n p

-- an operator, from the truth of its operands at each position
abbrev pub prefixed : ℕ → ℕ → Prefix → (ℕ → Bool) → ℕ → Bool
prefixed n u Not f i = not (f i)
prefixed n u Next f i = f (after n u i)
prefixed n u Finally f i = some n (λ k. f (later n u i k))
prefixed n u Globally f i = every n (λ k. f (later n u i k))

abbrev pub infixed : ℕ → ℕ → Infix → (ℕ → Bool) → (ℕ → Bool) → ℕ → Bool
infixed n u Implies f g i = not (f i) || g i
infixed n u Or f g i = f i || g i
infixed n u And f g i = f i && g i
infixed n u Until f g i = some n (λ k. g (later n u i k) && every k (λ j. f (later n u i j)))
infixed n u Release f g i = every n (λ k. g (later n u i k) || some k (λ j. f (later n u i j)))

-- a formula at position i of the lasso with these labels and lead-in u
abbrev pub truth : Formula → List ℕ → ℕ → ℕ → Bool
truth (constant b) labels u i = b
truth (letter a) labels u i = has (slice_index labels i) a
truth (unary op f) labels u i = prefixed (length labels) u op (truth f labels u) i
truth (binary op f g) labels u i = infixed (length labels) u op (truth f labels u) (truth g labels u) i
