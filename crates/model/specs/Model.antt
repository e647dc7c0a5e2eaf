-- The generator as its users see it: cells that hold codes, open binders, marks, the next serial.
use Rattle.std.specs.Prelude.{ℕ, ◌+◌, ◌-◌, Bool, true, false, cond, ◌&&◌, List, [], ◌∷◌, ◌++◌, length, drop, replicate, Some, None, Ok, Err, Option, Result, ◌==◌, nat_le, nat_lt, slice_index_or, slice_set}
use Rattle.code.specs.declared.types.Base.{Base}
use Rattle.code.specs.declared.types.Ty.{Ty}
use Rattle.code.specs.declared.types.Ty.TheVariants.{Plain}
use Rattle.code.specs.declared.refusal.Refusal.TheVariants as refusals
use Rattle.code.specs.Numbers.{operator, base, refusal_number}
use Rattle.code.specs.Code.{Code}
use Rattle.code.specs.Typing.{joined, chosen, applied, abstracted}
use Rattle.code.specs.Names.{merge, without}
use Rattle.code.specs.Text.{text}

-- a code in a cell, with its type, its size and its free names
pub record Piece : Type 0 where
  pub code : Code
  pub type : Ty
  pub size : ℕ
  pub names : List ℕ

-- a binder that is open: its serial, and its parameter's type or, for a let, the bound code
pub data Binder : Type 0 where
  parameter : ℕ → Base → Binder
  bound : ℕ → Piece → Binder

abbrev pub serial : Binder → ℕ
serial (parameter s p) = s
serial (bound s e) = s

-- the type of the variable that it binds
abbrev pub variable_type : Binder → Ty
variable_type (parameter s p) = Plain p
variable_type (bound s e) = e.type

-- the open binders and the marks, the latest first; a mark is the number of binders that were open when it was set
pub record State : Type 0 where
  pub cells : List (Option Piece)
  pub open_binders : List Binder
  pub marks : List ℕ
  pub next : ℕ

-- a new generator
abbrev pub fresh : State
fresh = record { cells = replicate 16 None; open_binders = []; marks = []; next = 0 }

-- the refusals that hold nothing more
pub data Refusal : Type 0 where
  bad_argument unknown_kind cut_short no_block steps_spent empty_cell no_binder no_mark still_open not_closed wrong_type too_deep names_spent too_large short_output : Refusal

-- their numbers
abbrev pub number : Refusal → ℕ
number bad_argument = refusal_number refusals.BadArgument
number unknown_kind = refusal_number refusals.UnknownKind
number cut_short = refusal_number refusals.CutShort
number no_block = refusal_number refusals.NoBlock
number steps_spent = refusal_number refusals.StepsSpent
number empty_cell = refusal_number refusals.EmptyCell
number no_binder = refusal_number refusals.NoBinder
number no_mark = refusal_number refusals.NoMark
number still_open = refusal_number refusals.StillOpen
number not_closed = refusal_number refusals.NotClosed
number wrong_type = refusal_number refusals.WrongType
number too_deep = refusal_number refusals.TooDeep
number names_spent = refusal_number refusals.NamesSpent
number too_large = refusal_number refusals.TooLarge
number short_output = refusal_number refusals.ShortOutput

-- a refusal: an escape holds the cell and the number of its names that are not open, a store's refusal the price and the free units
pub data Fault : Type 0 where
  plain : Refusal → Fault
  escaped : ℕ → ℕ → Fault
  no_room : ℕ → ℕ → Fault

-- the number of the refusal
abbrev pub refusal : Fault → ℕ
refusal (plain r) = number r
refusal (escaped cell count) = refusal_number refusals.Escaped
refusal (no_room wanted units) = refusal_number refusals.NoRoom

-- the cell that a fault names, where it is an escape
abbrev pub escape_cell : Fault → Option ℕ
escape_cell (plain r) = None
escape_cell (escaped c n) = Some c
escape_cell (no_room w u) = None

-- judging, one refusal after the other: what holds goes on, what does not is refused
abbrev pub judged : {A : Type 0} → Bool → Fault → Result A Fault → Result A Fault
judged true f r = r
judged false f r = Err f

abbrev pub judge : {A : Type 0} → Bool → Refusal → Result A Fault → Result A Fault
judge b f r = judged b (plain f) r

-- a cell that is read must hold a code
abbrev pub full : {A : Type 0} → Option Piece → (Piece → Result A Fault) → Result A Fault
full None k = Err (plain empty_cell)
full (Some p) k = k p

-- a construct must have a type
abbrev pub typed : {A : Type 0} → Option Ty → (Ty → Result A Fault) → Result A Fault
typed None k = Err (plain wrong_type)
typed (Some t) k = k t

-- a binder of this serial is open
abbrev pub is_open : List Binder → ℕ → Bool
is_open [] s = false
is_open (b ∷ bs) s = cond (serial b == s) true (is_open bs s)

-- the names that are not open, in their order
abbrev pub escaping : List Binder → List ℕ → List ℕ
escaping bs [] = []
escaping bs (s ∷ ss) = cond (is_open bs s) (escaping bs ss) (s ∷ escaping bs ss)

-- code that is used may have no free name that is not open
abbrev pub usable : {A : Type 0} → State → ℕ → Piece → Result A Fault → Result A Fault
usable st c p r = judged (length (escaping st.open_binders p.names) == 0) (escaped c (length (escaping st.open_binders p.names))) r

-- what cell c holds
abbrev pub cell : State → ℕ → Option Piece
cell st c = slice_index_or st.cells c None

-- the state with cell c filled or emptied
abbrev pub put : State → ℕ → Option Piece → State
put st c p = record { cells = slice_set st.cells c p; open_binders = st.open_binders; marks = st.marks; next = st.next }

-- what a making call would make, the state after it, and the serial that it gives
pub record Plan : Type 0 where
  pub piece : Piece
  pub after : State
  -- the serial that the call gives, where it opens a binder
  pub given : Option ℕ

-- whether one more binder, mark or serial, or a code of this size, is within the limits; the limits can be struck out
pub record Limits : Type 0 where
  pub binders : ℕ → Bool
  pub marks : ℕ → Bool
  pub serials : ℕ → Bool
  pub sizes : ℕ → Bool

-- at most 16 open binders, 8 marks, 4,096 serials, and codes of size 4,096
abbrev pub stated : Limits
stated = record { binders = λ n. nat_lt n 16; marks = λ n. nat_lt n 8; serials = λ n. nat_lt n 4096; sizes = λ n. nat_le n 4096 }

abbrev pub unlimited : Limits
unlimited = record { binders = λ n. true; marks = λ n. true; serials = λ n. true; sizes = λ n. true }

-- a number must stand for something
abbrev pub lawful : {A B : Type 0} → Option A → (A → Result B Fault) → Result B Fault
lawful None k = Err (plain bad_argument)
lawful (Some x) k = k x

-- a code made into cell c
abbrev pub into : State → ℕ → Piece → Result Plan Fault
into st c p = Ok (record { piece = p; after = put st c (Some p); given = None })

-- a code without parts into cell c, which is lawful below 16
abbrev pub leaf : State → ℕ → Code → Ty → Result Plan Fault
leaf st c x t = judge (nat_lt c 16) bad_argument (into st c (record { code = x; type = t; size = 1; names = [] }))

-- how many binders were open when the latest mark was set
abbrev pub floor : List ℕ → ℕ
floor [] = 0
floor (m ∷ ms) = m

module _ (limits : Limits) where
  -- cells a and b under operator o into c
  abbrev pub join_plan : State → ℕ → ℕ → ℕ → ℕ → Result Plan Fault
  join_plan st c o a b =
      judge (nat_lt c 16 && nat_lt a 16 && nat_lt b 16) bad_argument
      (lawful (operator o) λ op.
      full (cell st a) λ x. full (cell st b) λ y.
      usable st a x (usable st b y
      (typed (joined op x.type y.type) λ t.
      judge (limits.sizes (1 + x.size + y.size)) too_large
      (into st c (record { code = Code.join op x.code y.code; type = t; size = 1 + x.size + y.size; names = merge x.names y.names })))))

  -- if a then b else d into c
  abbrev pub choose_plan : State → ℕ → ℕ → ℕ → ℕ → Result Plan Fault
  choose_plan st c a b d =
      judge (nat_lt c 16 && nat_lt a 16 && nat_lt b 16 && nat_lt d 16) bad_argument
      (full (cell st a) λ x. full (cell st b) λ y. full (cell st d) λ z.
      usable st a x (usable st b y (usable st d z
      (typed (chosen x.type y.type z.type) λ t.
      judge (limits.sizes (1 + x.size + y.size + z.size)) too_large
      (into st c (record { code = Code.choose x.code y.code z.code; type = t; size = 1 + x.size + y.size + z.size; names = merge x.names (merge y.names z.names) }))))))

  -- f applied to a into c
  abbrev pub apply_plan : State → ℕ → ℕ → ℕ → Result Plan Fault
  apply_plan st c f a =
      judge (nat_lt c 16 && nat_lt f 16 && nat_lt a 16) bad_argument
      (full (cell st f) λ x. full (cell st a) λ y.
      usable st f x (usable st a y
      (typed (applied x.type y.type) λ t.
      judge (limits.sizes (1 + x.size + y.size)) too_large
      (into st c (record { code = Code.apply x.code y.code; type = t; size = 1 + x.size + y.size; names = merge x.names y.names })))))

  -- a binder opened with the next serial, its variable into c
  abbrev pub opened : State → ℕ → Binder → Result Plan Fault
  opened st c b =
      judge (limits.binders (length st.open_binders)) too_deep
      (judge (limits.serials st.next) names_spent
      (let p : Piece = record { code = Code.variable st.next; type = variable_type b; size = 1; names = st.next ∷ [] } in
      Ok (record { piece = p; after = record { cells = slice_set st.cells c (Some p); open_binders = b ∷ st.open_binders; marks = st.marks; next = st.next + 1 }; given = Some st.next })))

  -- a function binder with a parameter of type p
  abbrev pub fun_plan : State → ℕ → ℕ → Result Plan Fault
  fun_plan st c p = judge (nat_lt c 16) bad_argument (lawful (base p) λ t. opened st c (parameter st.next t))

  -- a let binder over the code in a
  abbrev pub let_plan : State → ℕ → ℕ → Result Plan Fault
  let_plan st c a =
      judge (nat_lt c 16 && nat_lt a 16) bad_argument
      (full (cell st a) λ x. usable st a x (opened st c (bound st.next x)))

  -- the function or let that a binder and its body make
  abbrev pub closed_with : State → ℕ → Piece → Binder → List Binder → Result Plan Fault
  closed_with st c x (parameter s p) rest =
      typed (abstracted p x.type) λ t.
      judge (limits.sizes (1 + x.size)) too_large
      (into (record { cells = st.cells; open_binders = rest; marks = st.marks; next = st.next }) c
      (record { code = Code.function s p x.code; type = t; size = 1 + x.size; names = without s x.names }))
  closed_with st c x (bound s e) rest =
      judge (limits.sizes (1 + e.size + x.size)) too_large
      (into (record { cells = st.cells; open_binders = rest; marks = st.marks; next = st.next }) c
      (record { code = Code.letin s e.code x.code; type = x.type; size = 1 + e.size + x.size; names = merge e.names (without s x.names) }))

  -- the latest binder, which must be open since the latest mark
  abbrev pub close_latest : State → ℕ → Piece → List Binder → Result Plan Fault
  close_latest st c x [] = Err (plain no_binder)
  close_latest st c x (b ∷ rest) = judge (nat_le (floor st.marks) (length rest)) no_binder (closed_with st c x b rest)

  -- the latest open binder ended with the code in a as body, into c
  abbrev pub close_plan : State → ℕ → ℕ → Result Plan Fault
  close_plan st c a =
      judge (nat_lt c 16 && nat_lt a 16) bad_argument
      (full (cell st a) λ x. usable st a x (close_latest st c x st.open_binders))

  -- a copy may be of escaped code
  abbrev pub copied : State → ℕ → ℕ → Result State Fault
  copied st c a = judge (nat_lt c 16 && nat_lt a 16) bad_argument (full (cell st a) λ x. Ok (put st c (Some x)))

  -- cell c emptied
  abbrev pub cleared : State → ℕ → Result State Fault
  cleared st c = judge (nat_lt c 16) bad_argument (Ok (put st c None))

  -- a mark set
  abbrev pub marked : State → Result State Fault
  marked st = judge (limits.marks (length st.marks)) too_deep (Ok (record { cells = st.cells; open_binders = st.open_binders; marks = length st.open_binders ∷ st.marks; next = st.next }))

  abbrev pub finish_mark : State → List ℕ → Result State Fault
  finish_mark st [] = Err (plain no_mark)
  finish_mark st (m ∷ ms) = judge (nat_le (length st.open_binders) m) still_open (Ok (record { cells = st.cells; open_binders = st.open_binders; marks = ms; next = st.next }))

  -- the latest mark taken away, with no binder open since
  abbrev pub finished : State → Result State Fault
  finished st = finish_mark st st.marks

  abbrev pub leave_mark : State → List ℕ → Result State Fault
  leave_mark st [] = Err (plain no_mark)
  leave_mark st (m ∷ ms) = Ok (record { cells = st.cells; open_binders = drop (length st.open_binders - m) st.open_binders; marks = ms; next = st.next })

  -- the latest mark taken away, with every binder opened since
  abbrev pub left : State → Result State Fault
  left st = leave_mark st st.marks

-- what a print at a place of an output would write: the text and one byte 10
abbrev pub print_plan : State → ℕ → ℕ → List ℕ → Result (List ℕ) Fault
print_plan st a place output =
    judge (nat_lt a 16 && nat_le place (length output)) bad_argument
    (full (cell st a) λ x. usable st a x
    (judge (length x.names == 0) not_closed
    (let line : List ℕ = text [] x.code ++ (10 ∷ []) in
    judge (nat_le (place + length line) (length output)) short_output (Ok line))))
