-- Each full cell's size, names and type are exact.
use Rattle.std.proofs.Common.{◌≡◌, ℕ, List, [], ◌∷◌, length, sym, ap, subst, ⊎_elim}
use Rattle.code.specs.Members.{In}
use Rattle.code.specs.Code.{size}
use Rattle.code.specs.Names.{free}
use Rattle.model.specs.Model.{Piece, Binder, bound}
use Rattle.model.specs.Exact.{AllExact}
use Rattle.code.proofs.NameLists.{in_none, in_cons}
use Rattle.code.proofs.TypeRules.{has_type}
use Rattle.model.proofs.Binders.{escaping_none}
use Rattle.model.proofs.Pieces.{Bound, Opens, names_ascending}
use Rattle.model.proofs.Sound.{grown_sound}

bound_good : (bs : List Binder) (n : ℕ) → Opens bs n → (s : ℕ) (e : Piece) → In (bound s e) bs → (e.size ≡ size e.code) × (e.names ≡ free e.code)
bound_good [] n o s e i = absurd (in_none i)
bound_good (b ∷ bs) n o s e i =
    ⊎_elim (λ q. let h : Bound (bound s e) bs = subst (λ (x : Binder). Bound x bs) (sym q) o.1.0 in (h.0.sized, h.0.named)) (λ j. bound_good bs _ o.1.1 s e j) (in_cons i)

pub all_exact : AllExact
all_exact st grown =
    let h = grown_sound grown in
    record {
      cells = λ i p e.
          let g = h.pieces i p e in
          record {
            size_is = g.sized;
            names_are = g.named;
            ascending = names_ascending st.open_binders st.next p g;
            type_is = λ z. has_type p.code _ _ (g.typed (escaping_none st.open_binders p.names (ap length z)));
          };
      bounds = bound_good st.open_binders st.next h.binders;
    }
