-- What a life that sends to a host with a program has sent is within what that granted on the link of the life.
use Rattle.mixed_worlds.proofs.Common.{Bool, List, Some, subst, sym, true, false, ap, if◌then◌else◌, ℕ, ◌≡◌, ◌∙◌, Command, Contains, Crossing, Host, IsMixed, Life, Moment, crossings_of, is_receive_socket, lives_among, mixed_kept, receives, sends, send_odd, in_book, AreOurs, Network, same_Some}
use Rattle.mixed_worlds.specs.Toward.{IsCarried, IsNamed}
use Rattle.mixed_worlds.proofs.Moments.{Orders}
use Rattle.world_keeps_lives.proofs.lemmas.{each_in, HasRequests, str_foreign}
use Rattle.promise.specs.Formed.{going, HasCrossed, coming, link_of, request}
use Rattle.world_keeps_lives.proofs.lemmas.Formed.{link_is}
use Rattle.world_keeps_streams.specs.Granted.{EachIsWithin, IsWithin}
use Rattle.mixed_worlds.proofs.Asked.{rts_is}
use Rattle.mixed_worlds.proofs.AskedLives.{IsOwn, all_own}
use Rattle.mixed_worlds.proofs.CarriedLives.{is_carried}

module _ (strange : Host → Bool) (log : List Crossing) (x : Life) (kind : sends x ≡ true) (own : IsOwn strange log x) where
  odd : receives x ≡ false
  odd = send_odd x.socket kind

  -- its own request is an STR, so its partner's is an RTS
  even : is_receive_socket x.foreign ≡ true
  even = str_foreign own.own.crossed.message.text x.socket x.foreign own.own.named odd own.own.crossed.holds

  -- the link that its partner's request names is the one of both
  requests : (link : ℕ) → IsNamed log x link → HasRequests log (record { life = x; link = link })
  requests link named = record {
    size = own.own.named;
    own = subst (λ (b : Bool). HasCrossed going x.host x.peer x.own_stamp (request x.socket x.foreign (if b then link else own.own.named)) log) (sym odd) own.own.crossed;
    partner = subst (λ (b : Bool). HasCrossed coming x.peer x.host x.partner_stamp (request x.foreign x.socket (if b then own.own.named else link)) log) (sym odd)
        (subst (λ (c : Command). HasCrossed coming x.peer x.host x.partner_stamp c log) (sym (rts_is x.foreign x.socket link even)) named);
  }

pub granted : (orders : Orders) (strange : Host → Bool) (hosts : List Host) (moments : List Moment) → IsMixed strange hosts moments
    → EachIsWithin (crossings_of moments) (lives_among strange (mixed_kept strange moments).book.lives)
granted orders strange hosts moments mixed x link there kind is =
    let net : Network = record { all = hosts; strange = strange } in
    let lives : List Life = (mixed_kept strange moments).book.lives in
    let two : Contains lives x × AreOurs net x.host x.peer = in_book net lives x there in
    let c : IsCarried (crossings_of moments) x = is_carried orders strange hosts moments mixed x two.0 in
    let own : IsOwn strange (crossings_of moments) x = each_in (IsOwn strange (crossings_of moments)) lives x two.0 (all_own orders strange hosts moments mixed) in
    let same : link_of (crossings_of moments) x ≡ Some c.link = link_is net moments (mixed.addresses, mixed.run, mixed.happen) (record { life = x; link = c.link }) two.1
    (requests strange (crossings_of moments) x kind own c.link (c.named kind)) in
    subst (λ (l : ℕ). IsWithin (crossings_of moments) x l) (same_Some c.link link (sym same ∙ is)) (c.within kind)
