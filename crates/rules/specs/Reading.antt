-- What a reader's fields stand for, in terms of the machine that the grammar's proofs are about. Only contracts inside
-- this crate speak of it.
use Rattle.std.specs.Prelude.{◌≡◌, ℕ, ◌+◌, ◌-◌, ◌<◌, ◌≤◌, Bool, true, false, cond, List, [], ◌∷◌, ◌++◌, length, take, Ok, Err, Result, ◌≢◌, nat_lt, slice_index_or, slice_set}
use Rattle.formulas.specs.declared.Infix.{Infix}
use Rattle.formulas.specs.declared.Part.{Part}
use Rattle.formulas.specs.declared.Part.TheVariants.{Constant, Unary, Binary}
use Rattle.formulas.specs.Formula.{Formula, constant, temporal_prefix, temporal_infix}
use Rattle.formulas.specs.Table.{formulas, locations, whole_formula, whole_locations, counted_from, sound}
use Rattle.formulas.specs.Grammar.{right, temporals}
use Rattle.formulas.proofs.Machine as machine
use Rattle.formulas.proofs.Machine.{State, wanting, having, dashed, failed, reduce, push, step, run, bracket, waiting, halfway}
use Rattle.formulas.proofs.Sound.{Alive}
use Rattle.formulas.proofs.Temporal.{temporal_of}
use Rattle.faults.specs.declared.Cause.TheVariants.{UnexpectedByte, TextTooShort, TooManyOperators}
use Rattle.faults.specs.declared.Fault.{Fault}
use Rattle.rules.specs.declared.rule.Rule.{Rule}
use Rattle.rules.specs.Refusal.{rule_fault}
use Rattle.rules.specs.Rules.{formula}
use Rattle.formulas.specs.declared.Sign.{Sign}
use Rattle.formulas.specs.declared.Sign.TheVariants.{Blank, Open, Close, Dash, Head, Letter, Before, Between, Unknown}
use Rattle.formulas.specs.declared.Sign.TheVariants.{Constant as ConstantSign}
use Rattle.formulas.specs.Grammar.{level}
use Rattle.rules.specs.declared.reader.Frame.{Frame}
use Rattle.rules.specs.declared.reader.Frame.TheVariants.{Bracket, Waiting, Halfway}
use Rattle.rules.specs.declared.reader.Mode.{Mode}
use Rattle.rules.specs.declared.reader.Mode.TheVariants.{Wanting, Having, Dashed}
use Rattle.rules.specs.declared.reader.Reader.{Reader}

abbrev pub parts_of : Reader → List Part
parts_of r = take r.count r.parts

abbrev pub frames_of : Reader → List Frame
frames_of r = take r.depth r.frames

-- how tight a frame binds its operand
abbrev pub binds : Frame → ℕ
binds Bracket = 0
binds (Waiting op location) = 5
binds (Halfway op l location) = right op

abbrev pub frame_over : List Formula → Frame → machine.Frame
frame_over fs Bracket = bracket
frame_over fs (Waiting op location) = waiting op
frame_over fs (Halfway op l location) = halfway op (slice_index_or fs l (constant false))

-- the machine's stack has the newest frame first
abbrev pub stack_on : List Formula → List machine.Frame → List Frame → List machine.Frame
stack_on fs K [] = K
stack_on fs K (x ∷ xs) = stack_on fs (frame_over fs x ∷ K) xs

abbrev pub stack : List Part → List Frame → List machine.Frame
stack ps fs = stack_on (formulas ps) [] fs

abbrev pub state : List Part → List Frame → Mode → State
state ps fs Wanting = wanting (stack ps fs)
state ps fs Having = having (stack ps fs) (whole_formula ps)
state ps fs Dashed = dashed (stack ps fs) (whole_formula ps)

-- the locations that frames have given out, from the left
abbrev pub frame_locations : List (List ℕ) → Frame → List ℕ
frame_locations ls Bracket = []
frame_locations ls (Waiting op location) = cond (temporal_prefix op) (location ∷ []) []
frame_locations ls (Halfway op l location) = slice_index_or ls l [] ++ cond (temporal_infix op) (location ∷ []) []

abbrev pub open_locations : List (List ℕ) → List Frame → List ℕ
open_locations ls [] = []
open_locations ls (x ∷ xs) = frame_locations ls x ++ open_locations ls xs

abbrev pub all_locations : List Part → List Frame → List ℕ
all_locations ps fs = open_locations (locations ps) fs ++ whole_locations ps

abbrev pub mode_locations : List Part → List Frame → Mode → List ℕ
mode_locations ps fs Wanting = open_locations (locations ps) fs
mode_locations ps fs Having = all_locations ps fs
mode_locations ps fs Dashed = all_locations ps fs

-- left operands are parts that are there
abbrev pub left_within : ℕ → Frame → Bool
left_within n Bracket = true
left_within n (Waiting op location) = true
left_within n (Halfway op l location) = nat_lt l n

abbrev pub lefts_within : ℕ → List Frame → Bool
lefts_within n [] = true
lefts_within n (x ∷ xs) = cond (left_within n x) (lefts_within n xs) false

-- after an operand there is a part
abbrev pub HasPart : Mode → ℕ → Type 0
HasPart Wanting n = Unit {0}
HasPart Having n = 0 < n
HasPart Dashed n = 0 < n

-- parts and frames that fit together
pub record Fitting (ps : List Part) (fs : List Frame) : Type 0 where
  pub operands : sound ps ≡ true
  pub lefts : lefts_within (length ps) fs ≡ true

-- the two tables of a reader, in which at most n places are taken
pub record Tables (r : Reader) (n : ℕ) : Type 0 where
  pub fitting : Fitting (parts_of r) (frames_of r)
  pub room : r.depth + r.count ≤ n
  pub parts_length : length r.parts ≡ 128
  pub frames_length : length r.frames ≡ 128

-- a reader that has read n bytes
pub record Sane (r : Reader) (n : ℕ) : Type 0 where
  pub tables : Tables r n
  pub short : n ≤ 128
  pub part : HasPart r.mode r.count
  pub numbered : mode_locations (parts_of r) (frames_of r) r.mode ≡ counted_from 1 r.temporals
  pub nine : r.temporals ≤ 9

abbrev pub state_of : Reader → State
state_of r = state (parts_of r) (frames_of r) r.mode

-- a part or a frame more, or a frame less
abbrev pub with_part : Reader → Part → Reader
with_part r p = record { parts = slice_set r.parts r.count p; count = r.count + 1; frames = r.frames; depth = r.depth; mode = r.mode; temporals = r.temporals }

abbrev pub with_frame : Reader → Frame → Reader
with_frame r x = record { parts = r.parts; count = r.count; frames = slice_set r.frames r.depth x; depth = r.depth + 1; mode = r.mode; temporals = r.temporals }

abbrev pub less_frame : Reader → Reader
less_frame r = record { parts = r.parts; count = r.count; frames = r.frames; depth = r.depth - 1; mode = r.mode; temporals = r.temporals }

abbrev pub in_mode : Reader → Mode → Reader
in_mode r m = record { parts = r.parts; count = r.count; frames = r.frames; depth = r.depth; mode = m; temporals = r.temporals }

abbrev pub top_frame : Reader → Frame
top_frame r = slice_index_or r.frames (r.depth - 1) Bracket

-- the part that a frame makes with its operand
abbrev pub completed : Frame → ℕ → Part
completed Bracket i = Constant false
completed (Waiting op location) i = Unary op i location
completed (Halfway op l location) i = Binary op l i location

-- the frame on top takes the last part as its operand
abbrev pub applied : Reader → Reader
applied r = with_part (less_frame r) (completed (top_frame r) (r.count - 1))

-- after the frames that bind tighter than c have taken their operands
pub record Reduced (c : ℕ) (r : Reader) (n : ℕ) (q : Reader) : Type 0 where
  pub tables : Tables q n
  pub some : 0 < q.count
  pub value : (stack (parts_of q) (frames_of q), whole_formula (parts_of q)) ≡ reduce c (stack (parts_of r) (frames_of r)) (whole_formula (parts_of r))
  pub located : all_locations (parts_of q) (frames_of q) ≡ all_locations (parts_of r) (frames_of r)
  pub mode : q.mode ≡ r.mode
  pub temporals : q.temporals ≡ r.temporals

abbrev pub with_temporals : Reader → ℕ → Reader
with_temporals r n = record { parts = r.parts; count = r.count; frames = r.frames; depth = r.depth; mode = r.mode; temporals = n }

-- a temporal operator counts one
abbrev pub one_if : Bool → ℕ
one_if b = cond b 1 0

-- a location was given, or the tenth temporal operator refused
abbrev pub Located : Reader → Bool → ℕ → Reader → Result ℕ Fault → Type 0
Located r temporal n q (Ok location) = (q ≡ with_temporals r (r.temporals + one_if temporal)) × (location ≡ cond temporal (r.temporals + 1) 0) × (r.temporals + one_if temporal ≤ 9)
Located r temporal n q (Err f) = (temporal ≡ true) × (r.temporals ≡ 9) × (f ≡ rule_fault TooManyOperators n)

-- after a byte with the sign s, of n + 1 bytes: the reader moved on as the machine does
pub record Moved (r : Reader) (s : Sign) (n : ℕ) (q : Reader) : Type 0 where
  pub sane : Sane q (n + 1)
  pub state_is : state_of q ≡ step (state_of r) s
  pub temporals_are : q.temporals ≡ r.temporals + one_if (temporal_of s)

-- or it stopped: the machine fails at the sign, or the sign is a tenth temporal operator at which it would go on
pub data Stopped (r : Reader) (s : Sign) (n : ℕ) : Fault → Type 0 where
  no_rule : step (state_of r) s ≡ failed → Stopped r s n (rule_fault UnexpectedByte n)
  tenth : Alive (step (state_of r) s) → temporal_of s ≡ true → r.temporals ≡ 9 → Stopped r s n (rule_fault TooManyOperators n)

abbrev pub Stepped : Reader → Sign → ℕ → Reader → Result (Unit {0}) Fault → Type 0
Stepped r s n q (Ok _) = Moved r s n q
Stepped r s n q (Err f) = Stopped r s n f

-- after an infix operator
pub record Joined (r : Reader) (op : Infix) (n : ℕ) (q : Reader) : Type 0 where
  pub sane : Sane q (n + 1)
  pub state_is : state_of q ≡ push op (reduce (level op) (stack (parts_of r) (frames_of r)) (whole_formula (parts_of r)))
  pub temporals_are : q.temporals ≡ r.temporals + one_if (temporal_infix op)

abbrev pub Joining : Reader → Infix → ℕ → Reader → Result (Unit {0}) Fault → Type 0
Joining r op n q (Ok _) = Joined r op n q
Joining r op n q (Err f) = (temporal_infix op ≡ true) × (r.temporals ≡ 9) × (f ≡ rule_fault TooManyOperators n)

-- a letter is one of a to p
abbrev pub Known : Sign → Type 0
Known Blank = Unit {0}
Known Open = Unit {0}
Known Close = Unit {0}
Known Dash = Unit {0}
Known Head = Unit {0}
Known (ConstantSign b) = Unit {0}
Known (Letter a) = a < 16
Known (Before op) = Unit {0}
Known (Between op) = Unit {0}
Known Unknown = Unit {0}

-- the first i bytes of the text have been read
pub record Progress (text : List ℕ) (i : ℕ) (r : Reader) : Type 0 where
  pub sane : Sane r i
  pub ran : run (wanting []) (take i text) ≡ state_of r
  pub counted : temporals (take i text) ≡ r.temporals

-- at the end of a text of n bytes: the rule, where nothing is open; else the text ends too early
abbrev pub Finished : Reader → ℕ → Result Rule Fault → Type 0
Finished r n (Ok rule) = (K : List machine.Frame) × (g : Formula) × (state_of r ≡ having K g) × (reduce 0 K g ≡ ([], formula rule))
Finished r n (Err f) = (f ≡ rule_fault TextTooShort n) × ((K : List machine.Frame) (g h : Formula) → state_of r ≡ having K g → reduce 0 K g ≢ ([], h))
