-- Each granted print is the text of a program, in which every name belongs to its binder.
use Rattle.std.proofs.Common.{◌≡◌, ℕ, ◌+◌, ◌&&◌, eqb, ltb, leb, List, [], ◌∷◌, ◌++◌, length, Some, Result, sym, refl, ◌∙◌, subst, arith}
use Rattle.std.proofs.lemmas.Bool.{eqb-true}
use Rattle.std.proofs.lemmas.List.{nil_from_length}
use Rattle.code.specs.Members.{In}
use Rattle.code.specs.Names.{free}
use Rattle.code.specs.Text.{text}
use Rattle.model.specs.Model.{Piece, Binder, Fault, cell}
use Rattle.model.specs.Finish.{Program, Belongs, PrintsPrograms}
use Rattle.model.specs.Exact.{scope}
use Rattle.code.proofs.NameLists.{in_none}
use Rattle.code.proofs.TypeRules.{same_types}
use Rattle.code.proofs.Belongings.{names_belong}
use Rattle.model.proofs.Pieces.{Good}
use Rattle.model.proofs.Sound.{Granted, granted_judge, granted_full, granted_usable, grown_sound}

-- a good piece with no free names is a program
program : (bs : List Binder) (n : ℕ) (x : Piece) → Good bs n x → x.names ≡ [] → Program x.code
program bs n x g e = record {
  closed = closed;
  type = x.type;
  well_typed = same_types x.code [] (scope bs) (λ s i. absurd (in_none (subst (In s) closed i))) ∙ g.typed (λ s i. absurd (in_none (subst (In s) e i)));
  in_range = g.in_range;
}
  where
    closed : free x.code ≡ []
    closed = sym g.named ∙ e

pub prints_programs : PrintsPrograms
prints_programs st grown a place output line e =
    subst (λ (r : Result (List ℕ) Fault). Granted r Line) e
    (granted_judge Line (ltb a 16 && leb place (length output)) _ _ λ _. granted_full Line (cell st a) _ λ x full. granted_usable Line st a x _ λ _.
    granted_judge Line (eqb (length x.names) 0) _ _ λ z. granted_judge Line (leb (place + length (text [] x.code ++ (10 ∷ []))) (length output)) _ _ λ _.
    let g = (grown_sound grown).pieces a x full in
    let none : x.names ≡ [] = nil_from_length x.names (eqb-true (length x.names) 0 z) in
    (x, full, program st.open_binders st.next x g none, refl, names_belong.closed x.code (omega (arith, g.sized, g.small)) (sym g.named ∙ none)))
  where
    Line : List ℕ → Type 0
    Line l = (p : Piece) × (cell st a ≡ Some p) × Program p.code × (l ≡ text [] p.code ++ (10 ∷ [])) × Belongs p.code
