-- What each call but MARK, FINISH and LEAVE does to the marks and the open binders.
use Rattle.std.proofs.Common.{◌≡◌, ℕ, ◌+◌, ◌≤◌, ◌&&◌, ltb, leb, List, [], ◌∷◌, length, ℤ, None, Result, refl, rules}
use Rattle.std.proofs.lemmas.Bool.{leb-true}
use Rattle.code.specs.Typing.{abstracted}
use Rattle.model.specs.Model
use Rattle.model.specs.Model.{State, Piece, Binder, parameter, bound, serial, Plan, Fault, stated, cell, opened, closed_with, close_latest, join_plan, choose_plan, apply_plan, fun_plan, let_plan, close_plan, copied, cleared}
use Rattle.model.specs.Calls.{made, num_plan, truth_plan, input_plan, kept}
use Rattle.model.proofs.Sound.{Granted, granted_judge, granted_full, granted_typed, granted_usable, granted_made}

-- the marks stay; no binder is opened or closed, or one is opened with the next serial, or the latest is closed, above the latest mark
pub data Keeps (st : State) : State → Type 0 where
  same : {s : State} → s.marks ≡ st.marks → s.open_binders ≡ st.open_binders → s.next ≡ st.next → Keeps st s
  more : {s : State} (b : Binder) → s.marks ≡ st.marks → s.open_binders ≡ b ∷ st.open_binders → serial b ≡ st.next → s.next ≡ st.next + 1 → Keeps st s
  fewer : {s : State} (b : Binder) → s.marks ≡ st.marks → st.open_binders ≡ b ∷ s.open_binders → Model.floor st.marks ≤ length s.open_binders → s.next ≡ st.next → Keeps st s

module _ (st : State) (c : ℕ) where
  abbrev Made : Plan → Type 0
  Made p = Keeps st p.after

  pub keeps_num : (n : ℤ) → Granted (made None (num_plan st c n)) (Keeps st)
  keeps_num n = search (rules, same)

  pub keeps_truth : (b : ℕ) → Granted (made None (truth_plan st c b)) (Keeps st)
  keeps_truth b = search (rules, same)

  pub keeps_input : (i : ℕ) → Granted (made None (input_plan st c i)) (Keeps st)
  keeps_input i = search (rules, same)

  pub keeps_fun : (p : ℕ) → Granted (made None (fun_plan stated st c p)) (Keeps st)
  keeps_fun p = search (rules, more)

  pub keeps_let : (a : ℕ) → Granted (made None (let_plan stated st c a)) (Keeps st)
  keeps_let a = search (rules, more)

  keeps_closed_with : (x : Piece) (b : Binder) (rest : List Binder) → st.open_binders ≡ b ∷ rest → Model.floor st.marks ≤ length rest → Granted (closed_with stated st c x b rest) Made
  keeps_closed_with x (parameter s p) rest e l = granted_typed Made (abstracted p x.type) _ λ t _. granted_judge Made (leb (1 + x.size) 4096) _ _ λ _. fewer (parameter s p) refl e l refl
  keeps_closed_with x (bound s v) rest e l = granted_judge Made (leb (1 + v.size + x.size) 4096) _ _ λ _. fewer (bound s v) refl e l refl

  keeps_latest : (x : Piece) (bs : List Binder) → st.open_binders ≡ bs → Granted (close_latest stated st c x bs) Made
  keeps_latest x [] e = tt
  keeps_latest x (b ∷ rest) e =
      granted_judge Made (leb (Model.floor st.marks) (length rest)) _ _ λ l. keeps_closed_with x b rest e (leb-true (Model.floor st.marks) (length rest) l)

  pub keeps_close : (a : ℕ) → Granted (made None (close_plan stated st c a)) (Keeps st)
  keeps_close a =
      granted_made (Keeps st) _ (granted_judge Made (ltb c 16 && ltb a 16) _ _ λ _. granted_full Made (cell st a) _ λ x _. granted_usable Made st a x _ λ _.
      keeps_latest x st.open_binders refl)

  pub keeps_copy : (a : ℕ) → Granted (copied stated st c a) (Keeps st)
  keeps_copy a = search (rules, same)

  pub keeps_join : (o a b : ℕ) → Granted (made None (join_plan stated st c o a b)) (Keeps st)
  keeps_join o a b = search (rules, same)

  pub keeps_choose : (a b d : ℕ) → Granted (made None (choose_plan stated st c a b d)) (Keeps st)
  keeps_choose a b d = search (rules, same)

  pub keeps_apply : (f a : ℕ) → Granted (made None (apply_plan stated st c f a)) (Keeps st)
  keeps_apply f a = search (rules, same)

  pub keeps_clear : Granted (cleared stated st c) (Keeps st)
  keeps_clear = search (rules, same)

pub keeps_kept : {A : Type 0} (st : State) (r : Result A Fault) → Granted (kept st r) (Keeps st)
keeps_kept st r = search (rules, same)
