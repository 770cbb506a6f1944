use Rattle.std.proofs.Common.{◌≡◌, [], Some, None, refl, ap, sym, ◌∙◌, inl, inr, arith, rules}
use Rattle.pairing_law.specs.Links.{Sockets, Word, receiver, IsFreeLink}
use Rattle.pairing_law.specs.Marks.{Ask, Close}
use Rattle.pairing_law.specs.Example.{first_sockets, used_link, taken_link}
use Rattle.pairing_law.proofs.law.worked_links.Goals as goal

on_other : IsFreeLink 6 taken_link
on_other t (p, e, inl same) = let l : 6 ≡ 5 = ap (λ (w : Word). w.link) same in omega (arith, l)
on_other t (p, e, inr i) = i

on_free : IsFreeLink 5 used_link
on_free t (p, e, inl same) = let both : Ask p ≡ Close = ap (λ (w : Word). w.mark) same in absurd (cc)
on_free t (p, e, inr (inl same)) =
    let here : (receiver first_sockets used_link).end.asked ≡ Some p = sym (ap (λ (s : Sockets). (receiver s used_link).end.asked) (ap (λ (w : Word). w.sockets) same)) ∙ e in
    let both : None ≡ Some p = here in absurd (cc)
on_free t (p, e, inr (inr i)) = i

pub returns : goal.returns
returns c = record {
  apart = search rules;
  asked = ((refl, ([], refl)), ((((refl, refl), omega arith), λ t n. n.2), ((λ s. (refl, refl)), tt)));
  taken = search rules;
  used = λ free. free first_sockets (3, refl, inl refl);
  has = λ free. free first_sockets (3, refl, inl refl);
  other = on_other;
  free = on_free;
  closed = search rules;
  next = search rules;
  leaves = search rules;
}
