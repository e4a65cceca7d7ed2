-- Dialogue files. A mark of two ASCII bytes begins each record, and a number of two bytes has its least byte first.
--   DH  n (2 bytes, at most 4,096), m (1 byte, 1 to 64)        once
--   DS  label (2 bytes), start (1 byte, 0 or 1)                 n times
--   DP  from (2 bytes), event (1 byte), to (2 bytes)            each from and event greater than the one before, from first
--   DZ                                                          ends the file
use Rattle.std.specs.Prelude.{◌≡◌, ℕ, zero, suc, ◌+◌, ◌-◌, ◌*◌, ◌/◌, ◌%◌, ◌<◌, ◌≤◌, Bool, false, cond, not, ◌&&◌, ◌||◌, List, [], ◌∷◌, length, Some, None, Ok, Err, decimal, Option, Result, ◌==◌, ◌≢◌, nat_le, nat_lt, slice_index}
use Rattle.std.specs.Option.{option_or}
use Rattle.faults.specs.declared.Fault.{Fault}
use Rattle.faults.specs.declared.Cause.{Cause}
use Rattle.faults.specs.declared.Cause.TheVariants.{FileTooShort, BadMark, BadRecord, TrailingBytes}
use Rattle.faults.specs.declared.Layer.TheVariants.{File}
use Rattle.tables.specs.Table.{Table, empty}

-- Where records stand, and what they hold.

abbrev pub byte : List ℕ → ℕ → ℕ
byte bytes i = slice_index bytes i

-- a 16-bit number
abbrev pub word : List ℕ → ℕ → ℕ
word bytes i = (byte bytes i + 256 * byte bytes (i + 1)) % 65536

abbrev pub file_states : List ℕ → ℕ
file_states bytes = word bytes 2

abbrev pub file_events : List ℕ → ℕ
file_events bytes = byte bytes 4

abbrev pub state_place : ℕ → ℕ
state_place i = 5 + 5 * i

-- the k-th place behind the records of n states
abbrev pub press_place : ℕ → ℕ → ℕ
press_place n k = 5 + 5 * n + 7 * k

abbrev pub press_from : List ℕ → ℕ → ℕ
press_from bytes at = word bytes (at + 2)

abbrev pub press_event : List ℕ → ℕ → ℕ
press_event bytes at = byte bytes (at + 4)

abbrev pub press_to : List ℕ → ℕ → ℕ
press_to bytes at = word bytes (at + 5)

-- Events are below 64, so this number orders presses by the state they come from and then by the event.
abbrev pub press_key : List ℕ → ℕ → ℕ
press_key bytes at = press_from bytes at * 64 + press_event bytes at

-- The layout: what a good file of n states, m events and p presses is.

abbrev pub Marked : List ℕ → ℕ → ℕ → Type 0
Marked bytes at letter = (byte bytes at ≡ 68) × (byte bytes (at + 1) ≡ letter)

pub record Layout (bytes : List ℕ) (n m p : ℕ) : Type 0 where
  pub long : length bytes ≡ 7 + 5 * n + 7 * p
  pub header : Marked bytes 0 72
  pub states_are : file_states bytes ≡ n
  pub events_are : file_events bytes ≡ m
  pub few_states : n ≤ 4096
  pub some_events : 0 < m
  pub few_events : m ≤ 64
  pub state : (i : ℕ) → i < n → Marked bytes (state_place i) 83
  pub start : (i : ℕ) → i < n → byte bytes (state_place i + 4) ≤ 1
  pub press : (k : ℕ) → k < p → Marked bytes (press_place n k) 80
  pub from : (k : ℕ) → k < p → press_from bytes (press_place n k) < n
  pub event : (k : ℕ) → k < p → press_event bytes (press_place n k) < m
  pub to : (k : ℕ) → k < p → press_to bytes (press_place n k) < n
  pub rises : (k : ℕ) → suc k < p → press_key bytes (press_place n k) < press_key bytes (press_place n (suc k))
  pub end : Marked bytes (press_place n p) 90

-- a file that the layout allows
abbrev pub Allowed : List ℕ → Type 0
Allowed bytes = (n : ℕ) × (m : ℕ) × (p : ℕ) × Layout bytes n m p

-- The table that such a file gives.

-- where event e leads from state s, by the first k presses
abbrev pub found : List ℕ → ℕ → ℕ → ℕ → ℕ → Option ℕ
found bytes n s e zero = None
found bytes n s e (suc k) =
    let at = press_place n k in
    cond (press_from bytes at == s && press_event bytes at == e) (Some (press_to bytes at)) (found bytes n s e k)

abbrev pub filed : List ℕ → ℕ → ℕ → ℕ → Table
filed bytes n m p =
    record {
      states = n;
      events = m;
      start = λ s. cond (nat_lt s n) (byte bytes (state_place s + 4) == 1) false;
      label = λ s. cond (nat_lt s n) (word bytes (state_place s + 2)) 0;
      next = λ s e. found bytes n s e p;
    }

-- what a reader of such a file relies on: room for the records, values that exist, and the order of the presses
abbrev pub Room : List ℕ → ℕ → ℕ → Type 0
Room bytes n p = 5 * n + 7 * p ≤ length bytes - 5

abbrev pub Exist : List ℕ → ℕ → ℕ → ℕ → Type 0
Exist bytes n m p =
    (k : ℕ) → k < p → (press_from bytes (press_place n k) < n) × (press_event bytes (press_place n k) < m) × (press_to bytes (press_place n k) < n)

abbrev pub Ordered : List ℕ → ℕ → ℕ → Type 0
Ordered bytes n p = (j k : ℕ) → j < k → k < p → press_key bytes (press_place n j) < press_key bytes (press_place n k)

-- where the press of a state and event is, if there is one
abbrev pub Place : List ℕ → ℕ → ℕ → ℕ → Option ℕ → Type 0
Place bytes n p key None = (k : ℕ) → k < p → press_key bytes (press_place n k) ≢ key
Place bytes n p key (Some k) = (k < p) × (press_key bytes (press_place n k) ≡ key)

-- What is wrong with a file. The earliest record at fault decides. In a record a wrong byte of the mark comes first, at the mark; then an
-- early end, at the file's length; then a value or an order that is not allowed, at the mark.

abbrev pub file_fault : Cause → ℕ → Fault
file_fault cause place = record { cause = cause; place = place; layer = File }

-- whether a byte that is there is none of the mark D and p, or D and q
abbrev pub mark_wrong : List ℕ → ℕ → ℕ → ℕ → Bool
mark_wrong bytes at p q =
    (nat_lt at (length bytes) && not (byte bytes at == 68)) ||
    (nat_lt (at + 1) (length bytes) && not (byte bytes (at + 1) == p || byte bytes (at + 1) == q))

abbrev pub whole_fault : List ℕ → ℕ → ℕ → ℕ → ℕ → Option Fault
whole_fault bytes at p q size =
    cond (mark_wrong bytes at p q) (Some (file_fault BadMark at))
    (cond (nat_lt (length bytes) (at + size)) (Some (file_fault FileTooShort (length bytes))) None)

abbrev pub unless : Bool → Fault → Option Fault
unless allowed fault = cond allowed None (Some fault)

abbrev pub header_fault : List ℕ → Option Fault
header_fault bytes =
    option_or (whole_fault bytes 0 72 72 5)
    (unless (nat_le (file_states bytes) 4096 && nat_le 1 (file_events bytes) && nat_le (file_events bytes) 64) (file_fault BadRecord 0))

abbrev pub state_fault : List ℕ → ℕ → Option Fault
state_fault bytes at = option_or (whole_fault bytes at 83 83 5) (unless (nat_le (byte bytes (at + 4)) 1) (file_fault BadRecord at))

-- the earliest fault in the first n states
abbrev pub states_fault : List ℕ → ℕ → Option Fault
states_fault bytes zero = None
states_fault bytes (suc i) = option_or (states_fault bytes i) (state_fault bytes (state_place i))

abbrev pub is_end : List ℕ → ℕ → Bool
is_end bytes at = byte bytes (at + 1) == 90

abbrev pub press_allowed : List ℕ → ℕ → ℕ → ℕ → Bool
press_allowed bytes n m k =
    let at = press_place n k in
    nat_lt (press_from bytes at) n && nat_lt (press_event bytes at) m && nat_lt (press_to bytes at) n &&
    (k == 0 || nat_lt (press_key bytes (press_place n (k - 1))) (press_key bytes at))

abbrev pub press_fault : List ℕ → ℕ → ℕ → ℕ → Option Fault
press_fault bytes n m k =
    option_or (whole_fault bytes (press_place n k) 80 90 7) (unless (press_allowed bytes n m k) (file_fault BadRecord (press_place n k)))

-- the record at the k-th place behind the states: a press, or the end
abbrev pub place_fault : List ℕ → ℕ → ℕ → ℕ → Option Fault
place_fault bytes n m k =
    cond (is_end bytes (press_place n k)) (whole_fault bytes (press_place n k) 80 90 2) (press_fault bytes n m k)

-- the earliest fault from the k-th place on, where at most `left` places are left
abbrev pub tail_fault : List ℕ → ℕ → ℕ → ℕ → ℕ → Option Fault
tail_fault bytes n m zero k = None
tail_fault bytes n m (suc left) k =
    let at = press_place n k in
    option_or (place_fault bytes n m k)
    (cond (is_end bytes at) (unless (nat_le (length bytes) (at + 2)) (file_fault TrailingBytes (at + 2))) (tail_fault bytes n m left (k + 1)))

abbrev pub fault_of : List ℕ → Option Fault
fault_of bytes =
    option_or (header_fault bytes)
    (option_or (states_fault bytes (file_states bytes)) (tail_fault bytes (file_states bytes) (file_events bytes) (length bytes) 0))

-- how many presses a good file has
abbrev pub press_count : List ℕ → ℕ
press_count bytes = (length bytes - (7 + 5 * file_states bytes)) / 7

-- the dialogue of a bad file is the empty one
abbrev pub by_fault : Option Fault → Table → Table
by_fault None table = table
by_fault (Some _) table = empty

abbrev pub file_table : List ℕ → Table
file_table bytes = by_fault (fault_of bytes) (filed bytes (file_states bytes) (file_events bytes) (press_count bytes))

-- a fault as an answer
abbrev pub told : Option Fault → Result (Unit {0}) Fault
told None = Ok tt
told (Some f) = Err f

-- how the reading of the presses ends: at its fault, or with as many presses as the file has room for
abbrev pub Ends : List ℕ → ℕ → ℕ → Result ℕ Fault → Type 0
Ends bytes n m (Ok p) = (tail_fault bytes n m (length bytes) 0 ≡ None) × (length bytes ≡ 7 + 5 * n + 7 * p)
Ends bytes n m (Err f) = tail_fault bytes n m (length bytes) 0 ≡ Some f

-- event e is named E and its decimal number
abbrev pub file_name : ℕ → ℕ → List ℕ
file_name m e = cond (nat_lt e m) (69 ∷ decimal e) []

-- numbers of eight bits
abbrev pub Bytes : List ℕ → Type 0
Bytes bytes = (i : ℕ) → byte bytes i < 256

-- The statement that a file is accepted exactly where the layout allows it.
abbrev pub AcceptedByLayout : Type 0
AcceptedByLayout = (bytes : List ℕ) → (fault_of bytes ≡ None → Allowed bytes) × (Allowed bytes → fault_of bytes ≡ None)

-- The statement that two accepted files have equal tables, event counts among them, exactly when their bytes are equal.
abbrev pub TablesTellFiles : Type 0
TablesTellFiles =
    (a b : List ℕ) → Bytes a → Bytes b → fault_of a ≡ None → fault_of b ≡ None → (file_table a ≡ file_table b → a ≡ b) × (a ≡ b → file_table a ≡ file_table b)
