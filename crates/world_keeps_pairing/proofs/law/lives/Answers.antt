use Rattle.world_keeps_pairing.proofs.Common.{[], refl, Contains, crossings_of, origin_in, AreOurs, mixed_kept}
use Rattle.net_sim.proofs.lemmas.{Coupled, coupled}
use Rattle.world_keeps_pairing.proofs.LifeLists.{in_book, two_in_book}
use Rattle.world_keeps_pairing.proofs.BookPartners.{life_alone, life_in, life_matches, life_paired, partner_named, safe_partners, two_left, two_right}
use Rattle.world_keeps_pairing.proofs.LivesAmong.{lives_among}
use Rattle.world_keeps_pairing.proofs.Origins.{are_origins}
use Rattle.world_keeps_pairing.proofs.Served.{served_in}
use Rattle.world_keeps_pairing.specs.Laws.Worlds.{among}
use Rattle.world_keeps_pairing.proofs.law.lives.Goals as goal

pub returns : goal.returns
returns c = record {
  openings = λ hosts moments addresses run time h p ours own foreign.
      let k : Coupled hosts moments = coupled hosts addresses moments run time in
      lives_among hosts (origin_in (crossings_of moments)) moments (are_origins 0 (crossings_of moments) [] moments refl) k.story k.run run (served_in hosts moments time) h p ours own foreign;
  opening = λ hosts moments addresses run time x there.
      let k : Coupled hosts moments = coupled hosts addresses moments run time in
      let i : Contains (mixed_kept hosts.strange moments).book.lives x × AreOurs hosts x.host x.peer = in_book hosts (mixed_kept hosts.strange moments).book.lives x there in
      life_in hosts moments k.story k.run run (served_in hosts moments time) 0 x i.1 i.0;
  paired = λ hosts moments addresses run time x there.
      let k : Coupled hosts moments = coupled hosts addresses moments run time in
      let i : Contains (mixed_kept hosts.strange moments).book.lives x × AreOurs hosts x.host x.peer = in_book hosts (mixed_kept hosts.strange moments).book.lives x there in
      life_paired hosts moments k.story k.run run (served_in hosts moments time) x i.1 i.0;
  named = λ hosts moments addresses run time x there.
      let k : Coupled hosts moments = coupled hosts addresses moments run time in
      let i : Contains (mixed_kept hosts.strange moments).book.lives x × AreOurs hosts x.host x.peer = in_book hosts (mixed_kept hosts.strange moments).book.lives x there in
      partner_named hosts moments k.story k.run run (served_in hosts moments time) x i.1 i.0;
  partners = λ hosts moments addresses run time.
      let k : Coupled hosts moments = coupled hosts addresses moments run time in
      safe_partners hosts moments k.story k.run run (served_in hosts moments time) (among hosts moments)
      (λ x there. in_book hosts (mixed_kept hosts.strange moments).book.lives x there) (λ x y two. two_in_book hosts (mixed_kept hosts.strange moments).book.lives x y two);
  matches = λ hosts moments addresses run time receiver sender here there receiving asked.
      let k : Coupled hosts moments = coupled hosts addresses moments run time in
      let i : Contains (mixed_kept hosts.strange moments).book.lives receiver × AreOurs hosts receiver.host receiver.peer = in_book hosts (mixed_kept hosts.strange moments).book.lives receiver here in
      let j : Contains (mixed_kept hosts.strange moments).book.lives sender × AreOurs hosts sender.host sender.peer = in_book hosts (mixed_kept hosts.strange moments).book.lives sender there in
      life_matches hosts moments k.story k.run run (served_in hosts moments time) receiver sender i.1 j.1 i.0 j.0 receiving asked;
  one = λ hosts moments addresses run time receiver x y two mx my.
      let k : Coupled hosts moments = coupled hosts addresses moments run time in
      let i : Contains (mixed_kept hosts.strange moments).book.lives x × AreOurs hosts x.host x.peer = in_book hosts (mixed_kept hosts.strange moments).book.lives x (two_left x y (among hosts moments) two) in
      let j : Contains (mixed_kept hosts.strange moments).book.lives y × AreOurs hosts y.host y.peer = in_book hosts (mixed_kept hosts.strange moments).book.lives y (two_right x y (among hosts moments) two) in
      life_alone hosts moments k.story k.run run (served_in hosts moments time) receiver x y i.1 j.1 (two_in_book hosts (mixed_kept hosts.strange moments).book.lives x y two) mx my;
}
