use Rattle.std.proofs.Common.{◌≡◌, ℕ, ◌<◌, ◌≤◌, None}
use Rattle.search_bench.specs.Meanings.{listing}
use Rattle.search_bench.proofs.listed.questions.ListedGraph.step.Given as goal

abbrev pub invariant-loop-index : goal.invariant-loop-index
invariant-loop-index l = (k : ℕ) → l.from ≤ k → k < l.index → (listing l.targets l.nodes l.degree).target l.node k ≡ None
