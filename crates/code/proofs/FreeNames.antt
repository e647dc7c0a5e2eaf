-- The free names of a code: their list is ascending, and its members are just the names that stand free.
use Rattle.std.proofs.Common.{ℕ, arith, rules}
use Rattle.code.specs.Code.{Code}
use Rattle.code.specs.Members.{In}
use Rattle.code.specs.Names.{merge, without, free, Ascending}
use Rattle.code.specs.Exact.{StandsFree, NamesExact}
use Rattle.code.proofs.NameLists.{in_none, in_cons, first_at, in_merge, merge_left, merge_right, in_without, without_keeps, ascending_merge, ascending_without}

pub free_occurs : (s : ℕ) (c : Code) → In s (free c) → StandsFree s c
free_occurs s (Code.number n) h = in_none h
free_occurs s (Code.truth b) h = in_none h
free_occurs s (Code.input i) h = in_none h
free_occurs s (Code.variable x) h = search (rules, in_cons, in_none)
free_occurs s (Code.join o a b) h = search (rules, in_merge, free_occurs s a, free_occurs s b)
free_occurs s (Code.choose a b d) h = search (rules, in_merge, free_occurs s a, free_occurs s b, free_occurs s d)
free_occurs s (Code.apply f a) h = search (rules, in_merge, free_occurs s f, free_occurs s a)
free_occurs s (Code.function x p b) h = search (rules, in_without, free_occurs s b)
free_occurs s (Code.letin x e b) h = search (rules, in_merge, in_without, free_occurs s e, free_occurs s b)

pub occurs_free : (s : ℕ) (c : Code) → StandsFree s c → In s (free c)
occurs_free s (Code.number n) h = absurd h
occurs_free s (Code.truth b) h = absurd h
occurs_free s (Code.input i) h = absurd h
occurs_free s (Code.variable x) h = first_at h
occurs_free s (Code.join o a b) h = search (rules, merge_left, merge_right, occurs_free s a, occurs_free s b)
occurs_free s (Code.choose a b d) h = search (rules, merge_left, merge_right, occurs_free s a, occurs_free s b, occurs_free s d)
occurs_free s (Code.apply f a) h = search (rules, merge_left, merge_right, occurs_free s f, occurs_free s a)
occurs_free s (Code.function x p b) h = without_keeps s x (free b) h.1 (occurs_free s b h.0)
occurs_free s (Code.letin x e b) h = search (rules, merge_left, merge_right, without_keeps, occurs_free s e, occurs_free s b)

pub free_ascending : (c : Code) → Ascending 0 (free c)
free_ascending (Code.number n) = tt
free_ascending (Code.truth b) = tt
free_ascending (Code.input i) = tt
free_ascending (Code.variable s) = (omega arith, tt)
free_ascending (Code.join o a b) = ascending_merge 0 (free a) (free b) (free_ascending a) (free_ascending b)
free_ascending (Code.choose a b d) = ascending_merge 0 (free a) (merge (free b) (free d)) (free_ascending a) (ascending_merge 0 (free b) (free d) (free_ascending b) (free_ascending d))
free_ascending (Code.apply f a) = ascending_merge 0 (free f) (free a) (free_ascending f) (free_ascending a)
free_ascending (Code.function s p b) = ascending_without 0 s (free b) (free_ascending b)
free_ascending (Code.letin s e b) = ascending_merge 0 (free e) (without s (free b)) (free_ascending e) (ascending_without 0 s (free b) (free_ascending b))

pub names_exact : NamesExact
names_exact = record { told = free_occurs; all = occurs_free; ascending = free_ascending }
