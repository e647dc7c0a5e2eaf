-- What a store answers to requests in turn, and by which answers it stands for good.
use Rattle.std.specs.Prelude.{◌≡◌, ℕ, ◌<◌, ◌≤◌, List, [], ◌∷◌, ◌++◌, length, pos, Some, None, Ok, Err, slice_index_or}
use Rattle.code.specs.declared.construct.Handle.{Handle}
use Rattle.code.specs.declared.construct.Construct.TheVariants.{Number}
use Rattle.code.specs.Code.{Code}
use Rattle.store.specs.declared.meaning.StoreFault.TheVariants.{BadArgument, TooLarge, NoRoom}
use Rattle.store.specs.declared.sequence.Request.{Request}
use Rattle.store.specs.declared.sequence.Request.TheVariants.{Make, Look}
use Rattle.store.specs.declared.sequence.Answer.{Answer}
use Rattle.store.specs.declared.sequence.Answer.TheVariants as answer
use Rattle.store.specs.Meaning.{Codes, wanted, Answers, Made, Looked}
use Rattle.store.specs.Moment.{Moment}

-- what a store answers to one request, from the moment before it to that after it
abbrev pub Told : Moment → Request → Answer → Moment → Type 0
Told m (Make x) (answer.Made r) n = Made m.codes n.codes m.units n.units m.prices n.prices x r
Told m (Make x) (answer.Looked o) n = ⊥
Told m (Look h) (answer.Made r) n = ⊥
Told m (Look h) (answer.Looked o) n = Looked m.codes h o × (n ≡ m)

-- the answers to requests in turn
pub data ToldEach (m : Moment) : List Request → List Answer → Moment → Type 0 where
  nothing : ToldEach m [] [] m
  another : {rs : List Request} {bs : List Answer} {n : Moment} (r : Request) (a : Answer) (o : Moment) → ToldEach m rs bs n → Told n r a o → ToldEach m (rs ++ (r ∷ [])) (bs ++ (a ∷ [])) o

-- a made handle stands for what was asked, a shown construct is what its handle stands for, and what is too large stays so;
-- an unknown handle may become known, so the other answers bind nobody
abbrev pub Stands : Codes → Request → Answer → Type 0
Stands code (Make x) (answer.Made (Ok h)) = Answers code x h
Stands code (Make x) (answer.Made (Err BadArgument)) = Unit {0}
Stands code (Make x) (answer.Made (Err TooLarge)) = wanted code x ≡ Err TooLarge
Stands code (Make x) (answer.Made (Err (NoRoom w u))) = Unit {0}
Stands code (Make x) (answer.Looked o) = ⊥
Stands code (Look h) (answer.Made r) = ⊥
Stands code (Look h) (answer.Looked None) = Unit {0}
Stands code (Look h) (answer.Looked (Some x)) = Looked code h (Some x)

-- what a read past the end would give
abbrev pub no_request : Request
no_request = Make (Number (pos 0))

abbrev pub no_answer : Answer
no_answer = answer.Made (Ok (record { number = 0 }))

-- requests in turn, with their answers: what was known stays known, and each answer stands at the end
pub record AskedEach (m : Moment) (rs : List Request) (bs : List Answer) (n : Moment) : Type 0 where
  pub told : ToldEach m rs bs n
  pub answered : length bs ≡ length rs
  pub kept : (h : Handle) (c : Code) → m.codes h ≡ Some c → n.codes h ≡ Some c
  pub units : n.units ≤ m.units
  pub prices : (c : Code) → n.prices c ≡ m.prices c
  pub stands : (k : ℕ) → k < length rs → Stands n.codes (slice_index_or rs k no_request) (slice_index_or bs k no_answer)
