-- A list of steps as a graph.
use Rattle.std.specs.Prelude.{ℕ, ◌+◌, ◌*◌, false, cond, ◌&&◌, List, length, Some, None, Option, ◌==◌, nat_lt, slice_index}
use Rattle.components.specs.Graphs.{Graph}
use Rattle.search_bench.specs.declared.listed.Listed.{Listed}

-- w, if it is a node
abbrev pub a_node : ℕ → ℕ → Option ℕ
a_node n w = cond (nat_lt w n) (Some w) None

-- the node at a place of the list
abbrev pub pick : List ℕ → ℕ → ℕ → Option ℕ
pick ts n p = cond (nat_lt p (length ts)) (a_node n (slice_index ts p)) None

-- The steps of a node stand side by side, d places for each. Node 0 is the start; the one promise is missing nowhere.
abbrev pub listing : List ℕ → ℕ → ℕ → Graph
listing ts n d = record {
  nodes = n;
  start = λ v. (v == 0) && nat_lt v n;
  width = d;
  target = λ v i. cond (nat_lt i d) (pick ts n (v * d + i)) None;
  promises = 1;
  missing = λ _ _. false;
}

abbrev pub meant : Listed → Graph
meant l = listing l.targets.now l.nodes l.degree
