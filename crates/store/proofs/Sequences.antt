-- What was told stays true while a store goes on answering.
use Rattle.std.proofs.Common.{◌≡◌, ℕ, ◌+◌, ◌<◌, ◌≤◌, Bool, true, false, cond, ◌⊎◌, List, [], ◌∷◌, ◌++◌, length, get_or, take, drop, set, Some, None, Ok, Err, Option, Result, sym, refl, ap, ◌∙◌, subst, inl, inr, arith, rules}
use Rattle.std.proofs.lemmas.List.{take_more, take_more_set, get_or_append_left, get_or_push, length_push, drop-set-lt, drop-drop}
use Rattle.std.proofs.lemmas.Bool.{cases_lt}
use Rattle.code.specs.declared.construct.Handle.{Handle}
use Rattle.code.specs.declared.construct.Construct.{Construct}
use Rattle.code.specs.Code.{Code}
use Rattle.store.specs.declared.meaning.StoreFault.{StoreFault}
use Rattle.store.specs.declared.meaning.StoreFault.TheVariants.{BadArgument, TooLarge, NoRoom}
use Rattle.store.specs.declared.sequence.Request.{Request}
use Rattle.store.specs.declared.sequence.Request.TheVariants.{Make, Look}
use Rattle.store.specs.declared.sequence.Answer.{Answer}
use Rattle.store.specs.declared.sequence.Answer.TheVariants as answer
use Rattle.store.specs.Meaning.{Codes, meant, in_range, sized, wanted, Answered, Made, Looked}
use Rattle.store.specs.Moment.{Moment}
use Rattle.store.specs.Sequence.{Told, ToldEach, Stands, AskedEach, no_request, no_answer}
use Rattle.store.specs.Sequence
use Rattle.store.proofs.Meanings.{KnowsMore, meant_more, answers_more, made_answers}

-- what is too large stays so where more is known
large_more : (f g : Codes) (x : Construct) → KnowsMore f g → wanted f x ≡ Err TooLarge → wanted g x ≡ Err TooLarge
large_more f g x more e = by (in_range x) (meant f x) refl refl e
  where
    by : (b : Bool) (o : Option Code) → in_range x ≡ b → meant f x ≡ o → cond b (sized o) (Err BadArgument) ≡ Err TooLarge → wanted g x ≡ Err TooLarge
    by true None i m p = absurd (search rules)
    by true (Some c) i m p = (λ j. cond (i j) (sized (meant_more f g x c more m j)) (Err BadArgument)) ∙ p
    by false o i m p = absurd (search rules)

-- what was shown stays so where more is known
shown_more : (f g : Codes) (h : Handle) (x : Construct) → KnowsMore f g → Looked f h (Some x) → Looked g h (Some x)
shown_more f g h x more e = by (f h) refl
  where
    by : (o : Option Code) → f h ≡ o → Looked g h (Some x)
    by None is = absurd (e.1 is)
    by (Some c) is =
        let known : g h ≡ Some c = more h c is in
        (known ∙ sym (meant_more f g x c more (sym e.0 ∙ is)), λ none. absurd (let z : ◌≡◌ {A = Option Code} (Some c) None = sym known ∙ none in search rules))

-- an answer that stands goes on standing where more is known
stands_more : (f g : Codes) (r : Request) (a : Answer) → KnowsMore f g → Stands f r a → Stands g r a
stands_more f g (Make x) (answer.Made (Ok h)) more s = answers_more f g x h more s
stands_more f g (Make x) (answer.Made (Err BadArgument)) more s = tt
stands_more f g (Make x) (answer.Made (Err TooLarge)) more s = large_more f g x more s
stands_more f g (Make x) (answer.Made (Err (NoRoom w u))) more s = tt
stands_more f g (Make x) (answer.Looked o) more s = s
stands_more f g (Look h) (answer.Made r) more s = s
stands_more f g (Look h) (answer.Looked None) more s = tt
stands_more f g (Look h) (answer.Looked (Some x)) more s = shown_more f g h x more s

made_units : (f g : Codes) (had has : ℕ) (price priced : Code → ℕ) (x : Construct) (r : Result Handle StoreFault) → Made f g had has price priced x r → has ≤ had
made_units f g had has price priced x r made = by (wanted f x) r made.ends
  where
    by : (w : Result Code StoreFault) (s : Result Handle StoreFault) → Answered f g had has price w s → has ≤ had
    by (Err e) (Err d) ends = omega (arith, ends.1.units)
    by (Err e) (Ok h) ends = absurd ends
    by (Ok c) (Ok h) ends = ends.1
    by (Ok c) (Err BadArgument) ends = absurd ends
    by (Ok c) (Err TooLarge) ends = absurd ends
    by (Ok c) (Err (NoRoom w u)) ends = omega (arith, ends.3.units)

made_stands : (f g : Codes) (had has : ℕ) (price priced : Code → ℕ) (x : Construct) (r : Result Handle StoreFault) → Made f g had has price priced x r → Stands g (Make x) (answer.Made r)
made_stands f g had has price priced x (Ok h) made = made_answers f g had has price priced x h made
made_stands f g had has price priced x (Err BadArgument) made = tt
made_stands f g had has price priced x (Err TooLarge) made = by (wanted f x) refl made.ends
  where
    by : (w : Result Code StoreFault) → wanted f x ≡ w → Answered f g had has price w (Err TooLarge) → wanted g x ≡ Err TooLarge
    by (Err e) is ends = large_more f g x made.kept (is ∙ ap Err (sym ends.0))
    by (Ok c) is ends = absurd ends
made_stands f g had has price priced x (Err (NoRoom w u)) made = tt

-- what one answer comes to
record GoesOn (m : Moment) (r : Request) (a : Answer) (n : Moment) : Type 0 where
  pub kept : KnowsMore m.codes n.codes
  pub units : n.units ≤ m.units
  pub prices : (c : Code) → n.prices c ≡ m.prices c
  pub stands : Stands n.codes r a

unmoved : (m n : Moment) (r : Request) (a : Answer) → n ≡ m → Stands m.codes r a → GoesOn m r a n
unmoved m n r a same s =
    subst (λ (o : Moment). GoesOn m r a o) (sym same) (record { kept = λ h c is. is; units = omega arith; prices = λ c. refl; stands = s })

goes_on : (m n : Moment) (r : Request) (a : Answer) → Told m r a n → GoesOn m r a n
goes_on m n (Make x) (answer.Made r) t =
    record { kept = t.kept; units = made_units _ _ _ _ _ _ x r t; prices = t.prices; stands = made_stands _ _ _ _ _ _ x r t }
goes_on m n (Make x) (answer.Looked o) t = absurd t
goes_on m n (Look h) (answer.Made r) t = absurd t
goes_on m n (Look h) (answer.Looked None) t = unmoved m n (Look h) (answer.Looked None) t.1 tt
goes_on m n (Look h) (answer.Looked (Some x)) t = unmoved m n (Look h) (answer.Looked (Some x)) t.1 t.0

pub asked_none : (m : Moment) → AskedEach m [] [] m
asked_none m =
    record { told = Sequence.nothing; answered = refl; kept = λ h c is. is; units = omega arith; prices = λ c. refl; stands = λ k lt. absurd (omega arith) }

asked_another : (m n o : Moment) (rs : List Request) (bs : List Answer) (r : Request) (a : Answer) → AskedEach m rs bs n → Told n r a o → AskedEach m (rs ++ (r ∷ [])) (bs ++ (a ∷ [])) o
asked_another m n o rs bs r a v t =
    let s = goes_on n o r a t in
    record {
      told = Sequence.another r a o v.told t;
      answered = length_push bs a ∙ ap (λ (k : ℕ). k + 1) v.answered ∙ sym (length_push rs r);
      kept = λ h c is. s.kept h c (v.kept h c is);
      units = omega (arith, s.units, v.units);
      prices = λ c. s.prices c ∙ v.prices c;
      stands = λ k lt. by k (omega (arith, length_push rs r)) (cases_lt k (length rs));
    }
  where
    by : (k : ℕ) → k < length rs + 1 → (k < length rs) ⊎ (length rs ≤ k) → Stands o.codes (get_or (rs ++ (r ∷ [])) k no_request) (get_or (bs ++ (a ∷ [])) k no_answer)
    by k lt (inl l) =
        rw (get_or_append_left rs (r ∷ []) no_request k l, get_or_append_left bs (a ∷ []) no_answer k (omega (arith, v.answered)))
        (stands_more n.codes o.codes (get_or rs k no_request) (get_or bs k no_answer) (goes_on n o r a t).kept (v.stands k l))
    by k lt (inr l) =
        rw (get_or_push rs r no_request k (omega arith), get_or_push bs a no_answer k (omega (arith, v.answered))) (goes_on n o r a t).stands

-- one turn: the next request is asked, and its answer written at its place
pub asked_next : (m n o : Moment) (rs : List Request) (bs : List Answer) (k : ℕ) (a : Answer) → k < length rs → k < length bs → AskedEach m (take k rs) (take k bs) n → Told n (get_or rs k no_request) a o → AskedEach m (take (k + 1) rs) (take (k + 1) (set bs k a)) o
asked_next m n o rs bs k a lr lb v t =
    subst (λ (qs : List Request). AskedEach m qs (take (k + 1) (set bs k a)) o) (sym (take_more rs k no_request lr))
    (subst (λ (cs : List Answer). AskedEach m (take k rs ++ (get_or rs k no_request ∷ [])) cs o) (sym (take_more_set bs k a lb)) (asked_another m n o (take k rs) (take k bs) (get_or rs k no_request) a v t))

-- what stands past the place is left
pub rest_next : (bs cs : List Answer) (k : ℕ) (a : Answer) → drop k bs ≡ drop k cs → drop (k + 1) (set bs k a) ≡ drop (k + 1) cs
rest_next bs cs k a e = drop-set-lt (k + 1) bs k a (omega arith) ∙ sym (drop-drop 1 k bs) ∙ ap (drop 1) e ∙ drop-drop 1 k cs
