-- Equal tables, and equal answers.
use Rattle.std.proofs.Common.{◌≡◌, ℕ, Some, None, Option, arith}
use Rattle.tables.specs.Table.{Table}

-- two tables are equal where each of their answers is
pub same_tables : (a b : Table) → a.states ≡ b.states → a.events ≡ b.events → ((s : ℕ) → a.start s ≡ b.start s) → ((s : ℕ) → a.label s ≡ b.label s) → ((s e : ℕ) → a.next s e ≡ b.next s e) → a ≡ b
same_tables a b states events start label next =
    λ i. record { states = states i; events = events i; start = λ s. start s i; label = λ s. label s i; next = λ s e. next s e i }

pub some_same : {a b : ℕ} → Some a ≡ Some b → a ≡ b
some_same e = cc

-- an answer is not both there and not
pub none_some : {X : Type 0} {x : X} → ◌≡◌ {A = Option X} None (Some x) → ⊥
none_some e = let z : ◌≡◌ {A = ℕ} 0 1 = cc in omega arith
