use Rattle.mixed_worlds.proofs.Common.{◌≡◌, List, Network}
use Rattle.mixed_worlds.proofs.Moments.{Orders}
use Rattle.mixed_worlds.proofs.Joined.{joins}
use Rattle.mixed_worlds.proofs.LinkGrants.{granted}
use Rattle.mixed_worlds.proofs.Ours.{arrived, between, fated, over, safe, sent, whole, within}
use Rattle.mixed_worlds.proofs.Settled.{settles}
use Rattle.world_keeps_lives.proofs.lemmas.{told}
use Rattle.mixed_worlds.proofs.law.among.Goals as goal

pub returns : goal.returns
returns c =
    let orders : Orders = record {
      request = c.orders.ensures.request;
      message = c.orders.ensures.message;
      answer = c.orders.ensures.answer;
      offer = c.orders.ensures.offer;
    } in
    record {
      formed = λ strange hosts moments mixed.
          c.among.ensures.formed (record { all = hosts; strange = strange }) moments (mixed.addresses, mixed.run, mixed.happen);
      safe = λ strange hosts moments mixed.
          safe c.among.ensures (record { all = hosts; strange = strange }) moments mixed.addresses mixed.run mixed.happen;
      whole = λ strange hosts moments mixed.
          whole c.among.ensures (record { all = hosts; strange = strange }) moments mixed.addresses mixed.run mixed.happen;
      fated = λ strange hosts moments mixed.
          fated c.among.ensures (record { all = hosts; strange = strange }) moments mixed.addresses mixed.run mixed.happen;
      arrived = λ strange hosts moments mixed.
          arrived c.among.ensures (record { all = hosts; strange = strange }) moments mixed.addresses mixed.run mixed.happen;
      over = λ strange hosts moments mixed.
          over c.among.ensures (record { all = hosts; strange = strange }) moments mixed.addresses mixed.run mixed.happen;
      contacts = λ strange hosts moments mixed.
          c.among.ensures.contacts (record { all = hosts; strange = strange }) moments (mixed.addresses, mixed.run, mixed.happen);
      within = λ strange hosts moments mixed.
          within c.among.ensures (record { all = hosts; strange = strange }) moments mixed.addresses mixed.run mixed.happen;
      sent = λ strange hosts moments mixed.
          sent c.among.ensures (record { all = hosts; strange = strange }) moments mixed.addresses mixed.run mixed.happen;
      between = λ strange hosts moments mixed.
          between c.among.ensures (record { all = hosts; strange = strange }) moments mixed.addresses mixed.run mixed.happen;
      granted = λ strange hosts moments mixed. granted orders strange hosts moments mixed;
      told = λ strange hosts moments mixed.
          told (record { all = hosts; strange = strange }) mixed.addresses moments mixed.run mixed.happen;
      joined = λ strange hosts moments mixed reports backed. joins strange hosts moments mixed reports backed;
      settled = λ strange hosts moments mixed settled. settles strange hosts moments mixed settled;
    }
