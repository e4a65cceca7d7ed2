-- A lasso of n entries and a lead-in u below n stands for an endless journey: the entries in their order, and from the
-- last one back to entry u, round and round. Entries may be labels, presses or nodes alike.
use Rattle.std.specs.Prelude.{ℕ, zero, suc, ◌+◌, ◌-◌, ◌%◌, cond, List, length, None, Option, ◌==◌, nat_lt}
use Rattle.std.specs.List.{slice_get}

-- the position after position i
abbrev pub after : ℕ → ℕ → ℕ → ℕ
after n u i = cond (i + 1 == n) u (i + 1)

-- the position k steps after position i
abbrev pub later : ℕ → ℕ → ℕ → ℕ → ℕ
later n u i zero = i
later n u i (suc k) = after n u (later n u i k)

-- the position of step i of the journey
abbrev pub place : ℕ → ℕ → ℕ → ℕ
place n u i = cond (nat_lt i n) i (u + (i - u) % (n - u))

-- the entry that step i of the journey reads; none where the lead-in is not below the number of entries
abbrev pub entry : {X : Type 0} → List X → ℕ → ℕ → Option X
entry xs u i = cond (nat_lt u (length xs)) (slice_get xs (place (length xs) u i)) None
