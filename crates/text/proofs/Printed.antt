-- The text of a handle's code by its parts.
use Rattle.std.proofs.Common.{◌≡◌, ℕ, List, ◌∷◌, ◌++◌, length, Some, None, codes, Option, refl, ap, ◌∙◌}
use Rattle.code.specs.declared.operator.Operator.{Operator}
use Rattle.code.specs.declared.types.Base.{Base}
use Rattle.code.specs.declared.construct.Handle.{Handle}
use Rattle.code.specs.declared.construct.Construct.{Construct}
use Rattle.code.specs.declared.construct.Construct.TheVariants.{Join, Choose, Apply, Function, Let}
use Rattle.code.specs.Code.{Code}
use Rattle.code.specs.Text.{text, name, between, fun_head, let_head}
use Rattle.store.specs.Meaning.{Codes, meant, over1, over2, over3, Looked}
use Rattle.text.specs.Printing.{text_of}

-- the parts that a construct means something by
one_part : (w a : Option Code) (k : Code → Code) (P : Option Code → Option Code → Type 0) → w ≡ over1 a k → (w ≡ None → ⊥) → ((x : Code) → P (Some (k x)) (Some x)) → P w a
one_part w None k P e f p = absurd (f e)
one_part w (Some x) k P e f p = rw e (p x)

two_parts : (w a b : Option Code) (k : Code → Code → Code) (P : Option Code → Option Code → Option Code → Type 0) → w ≡ over2 a b k → (w ≡ None → ⊥) → ((x y : Code) → P (Some (k x y)) (Some x) (Some y)) → P w a b
two_parts w None b k P e f p = absurd (f e)
two_parts w (Some x) b k P e f p = one_part w b (k x) (λ w b. P w (Some x) b) e f (p x)

three_parts : (w a b d : Option Code) (k : Code → Code → Code → Code) (P : Option Code → Option Code → Option Code → Option Code → Type 0) → w ≡ over3 a b d k → (w ≡ None → ⊥) → ((x y z : Code) → P (Some (k x y z)) (Some x) (Some y) (Some z)) → P w a b d
three_parts w None b d k P e f p = absurd (f e)
three_parts w (Some x) b d k P e f p = two_parts w b d (k x) (λ w b d. P w (Some x) b d) e f (p x)

module _ (f : Codes) (h : Handle) {x : Construct} (l : Looked f h (Some x)) (around : List ℕ) where
  pub join_text : {o : Operator} {a b : Handle} → x ≡ Join o a b → codes "(" ++ text_of around (f a) ++ between o ++ text_of around (f b) ++ codes ")" ≡ text_of around (f h)
  join_text {o} {a} {b} e = two_parts (f h) (f a) (f b) (Code.join o) (λ w p q. codes "(" ++ text_of around p ++ between o ++ text_of around q ++ codes ")" ≡ text_of around w) (l.0 ∙ ap (meant f) e) l.1 (λ p q. refl)

  pub choose_text : {a b d : Handle} → x ≡ Choose a b d → codes "(if " ++ text_of around (f a) ++ codes " then " ++ text_of around (f b) ++ codes " else " ++ text_of around (f d) ++ codes ")" ≡ text_of around (f h)
  choose_text {a} {b} {d} e = three_parts (f h) (f a) (f b) (f d) Code.choose (λ w p q r. codes "(if " ++ text_of around p ++ codes " then " ++ text_of around q ++ codes " else " ++ text_of around r ++ codes ")" ≡ text_of around w) (l.0 ∙ ap (meant f) e) l.1 (λ p q r. refl)

  pub apply_text : {a b : Handle} → x ≡ Apply a b → codes "(" ++ text_of around (f a) ++ codes " @ " ++ text_of around (f b) ++ codes ")" ≡ text_of around (f h)
  apply_text {a} {b} e = two_parts (f h) (f a) (f b) Code.apply (λ w p q. codes "(" ++ text_of around p ++ codes " @ " ++ text_of around q ++ codes ")" ≡ text_of around w) (l.0 ∙ ap (meant f) e) l.1 (λ p q. refl)

  pub function_text : {s n : ℕ} {inner : List ℕ} {p : Base} {b : Handle} → x ≡ Function s p b → n ≡ length around → inner ≡ s ∷ around → fun_head (name n) p ++ text_of inner (f b) ++ codes ")" ≡ text_of around (f h)
  function_text {s} {n} {inner} {p} {b} e is within =
      rw within (one_part (f h) (f b) (Code.function s p) (λ w q. fun_head (name n) p ++ text_of (s ∷ around) q ++ codes ")" ≡ text_of around w) (l.0 ∙ ap (meant f) e) l.1 (λ q. ap (λ (m : ℕ). fun_head (name m) p ++ text (s ∷ around) q ++ codes ")") is))

  pub let_text : {s n : ℕ} {inner : List ℕ} {a b : Handle} → x ≡ Let s a b → n ≡ length around → inner ≡ s ∷ around → let_head (name n) ++ text_of around (f a) ++ codes " in " ++ text_of inner (f b) ++ codes ")" ≡ text_of around (f h)
  let_text {s} {n} {inner} {a} {b} e is within =
      rw within (two_parts (f h) (f a) (f b) (Code.letin s) (λ w p q. let_head (name n) ++ text_of around p ++ codes " in " ++ text_of (s ∷ around) q ++ codes ")" ≡ text_of around w) (l.0 ∙ ap (meant f) e) l.1 (λ p q. ap (λ (m : ℕ). let_head (name m) ++ text around p ++ codes " in " ++ text (s ∷ around) q ++ codes ")") is))
