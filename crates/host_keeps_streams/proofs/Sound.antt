-- Each command of a peer leaves ends that are sound.
use Rattle.host_keeps_streams.proofs.Common.{◌≡◌, ℕ, Bool, true, false, not, ◌&&◌, nat_le, List, [], ◌∷◌, ◌++◌, map, filter, find, Option, Some, None, is_some, refl, sym, subst, ◌∙◌, list_any, Host, IsCommand, is_receive_socket, Command, Found, Unconnected, Ending, Open, all_taken, asked_on_link, asked_with_size, at_end, cls_taken_by, given_back, granted, gvb_taken, interrupted, ret_taken, returned, receiver_on, rts_heard, rts_taken, rts_taken_by, sender_on, str_heard, str_linked, str_taken_by, desk_taken, DeskState, listener_on, changed_first, closed_by_partner, entry_at, free_link, is_at, is_link, is_receiving, receiving_end, receives_on, refused_end, sending_end, sends_on, Entry, Listener, both, IsFormed, AreSound, named, numbers, is_among, AreApart, NewNumber}
use Rattle.ncp_control.specs.Allocation as counters
use Rattle.ncp_control.specs.declared.command.Command.TheVariants as command
use Rattle.host_keeps_streams.proofs.Ending.{shut_one, stays}
use Rattle.host_keeps_streams.proofs.Formed.{answering_formed, counted_formed, formed_append, formed_changed, formed_found, formed_shut, formed_some, link_there, linked_formed, on_link_formed, refused_formed, with_size_formed}
use Rattle.host_keeps_streams.proofs.Names.{apart_append, apart_changed, apart_filter, numbers_mapped}
use Rattle.host_keeps_streams.proofs.ReceiverHears.{odd_is, own_parity}

module _ (name : ℕ → ℕ → ℕ) where
  pub sound_append : (es : List Entry) (e : Entry) → AreSound name es → IsFormed e → is_among (named name e) (numbers name es) ≡ false → AreSound name (es ++ e ∷ [])
  sound_append es e s f n = record { formed = formed_append es e s.formed f; apart = apart_append name es e s.apart n }

  pub sound_changed : (test : Entry → Bool) (change : Entry → Entry) (e : Entry) (es : List Entry) → AreSound name es → ((x : Entry) → named name (change x) ≡ named name x) → IsFormed (change e) → find test es ≡ Some e → AreSound name (changed_first test change es)
  sound_changed test change e es s same f found = record { formed = formed_changed test change e es s.formed f found; apart = apart_changed name test change es same s.apart }

  pub sound_some : (test : Entry → Bool) (change : Entry → Entry) (es : List Entry) → AreSound name es → ((x : Entry) → named name (change x) ≡ named name x) → ((x : Entry) → test x ≡ true → IsFormed x → IsFormed (change x)) → AreSound name (changed_first test change es)
  sound_some test change es s same f = record { formed = formed_some test change es s.formed f; apart = apart_changed name test change es same s.apart }

  module _ (peer : Host) (busy : List ℕ) (stamp : ℕ) (d : DeskState) (s : AreSound name d.entries) where
    -- ---- requests

    module _ (own foreign l : ℕ) (odd : is_receive_socket own ≡ false) (new : entry_at own foreign d.entries ≡ None → is_among (name own foreign) (numbers name d.entries) ≡ false) where
      rts_listened : is_among (name own foreign) (numbers name d.entries) ≡ false → (o : Option Listener) → AreSound name (rts_heard own foreign l stamp o d).entries
      rts_listened n None = sound_append d.entries _ s (refused_formed own foreign stamp) n
      rts_listened n (Some x) = sound_append d.entries _ s (answering_formed own foreign x.size stamp l) n

      rts_found : (e : Entry) → entry_at own foreign d.entries ≡ Some e → (v : Bool) → is_some e.partner ≡ v → AreSound name (rts_taken_by peer own foreign l stamp (Some e) d).entries
      rts_found e found true p = rw p s
      rts_found e found false p =
          rw p (sound_changed _ _ e d.entries s (λ x. refl)
          (on_link_formed stamp l e (formed_found _ e d.entries s.formed found) (own_parity name l own foreign e d.entries found ∙ odd) p) found)

      rts_by : (o : Option Entry) → entry_at own foreign d.entries ≡ o → AreSound name (rts_taken_by peer own foreign l stamp o d).entries
      rts_by None found = rts_listened (new found) _
      rts_by (Some e) found = rts_found e found _ refl

      rts_sound : (v : Bool) → list_any (sends_on l) d.entries ≡ v → AreSound name (rts_taken peer own foreign l stamp d).entries
      rts_sound true e = rw e s
      rts_sound false e = rw e (rts_by _ refl)

    module _ (own foreign z : ℕ) (even : is_receive_socket own ≡ true) (new : entry_at own foreign d.entries ≡ None → is_among (name own foreign) (numbers name d.entries) ≡ false) where
      str_answered : is_among (name own foreign) (numbers name d.entries) ≡ false → (o : Option ℕ) → AreSound name (str_linked own foreign z stamp o d).entries
      str_answered n None = sound_append d.entries _ s (refused_formed own foreign stamp) n
      str_answered n (Some l) = sound_append d.entries _ s (linked_formed own foreign z stamp l even) n

      str_listened : is_among (name own foreign) (numbers name d.entries) ≡ false → (o : Option Listener) → AreSound name (str_heard own foreign z stamp o d).entries
      str_listened n None = sound_append d.entries _ s (refused_formed own foreign stamp) n
      str_listened n (Some x) = str_answered n _

      str_found : (e : Entry) → entry_at own foreign d.entries ≡ Some e → (v : Bool) → is_some e.partner ≡ v → AreSound name (str_taken_by peer own foreign z stamp (Some e) d).entries
      str_found e found true p = rw p s
      str_found e found false p =
          rw p (sound_changed _ _ e d.entries s (λ x. refl)
          (with_size_formed stamp z e (formed_found _ e d.entries s.formed found) (own_parity name z own foreign e d.entries found ∙ even)) found)

      str_by : (o : Option Entry) → entry_at own foreign d.entries ≡ o → AreSound name (str_taken_by peer own foreign z stamp o d).entries
      str_by None found = str_listened (new found) _
      str_by (Some e) found = str_found e found _ refl

    -- ---- a CLS

    cls_by : (own foreign : ℕ) (o : Option Entry) → AreSound name (cls_taken_by peer busy own foreign o d).entries
    cls_by own foreign None = s
    cls_by own foreign (Some e) = by e.partner_closed refl where
      swept : AreSound name (filter stays (map (shut_one busy) (changed_first (is_at own foreign) closed_by_partner d.entries)))
      swept = record {
        formed = formed_shut busy _ d.entries s.formed;
        apart = apart_filter name stays _
            (subst AreApart (sym (numbers_mapped name _ _ (λ x. refl))) (apart_changed name _ closed_by_partner d.entries (λ x. refl) s.apart));
      }

      by : (v : Bool) → e.partner_closed ≡ v → AreSound name (cls_taken_by peer busy own foreign (Some e) d).entries
      by true t = rw t s
      by false t = rw t swept

    -- ---- allocation

    at_end_sound : (c : Command) (change : Entry → DeskState → DeskState) (w : Found) → ((e : Entry) → AreSound name (change e d).entries) → AreSound name (at_end c change w d).entries
    at_end_sound c change Unconnected f = s
    at_end_sound c change Ending f = s
    at_end_sound c change (Open e) f = f e

    sends_link : (l : ℕ) (x : Entry) → sends_on l x ≡ true → is_some x.link ≡ true
    sends_link l x t = link_there l x.link (both (not (is_receiving x)) (is_link l x.link) t).1

    receives_link : (l : ℕ) (x : Entry) → receives_on l x ≡ true → is_some x.link ≡ true
    receives_link l x t = link_there l x.link (both (is_receiving x) (is_link l x.link) t).1

    ret_sound : (l m n : ℕ) (e : Entry) → AreSound name (ret_taken l m n e d).entries
    ret_sound l m n e = by (nat_le m e.allocation.messages && nat_le n e.allocation.bits) refl where
      by : (v : Bool) → (nat_le m e.allocation.messages && nat_le n e.allocation.bits) ≡ v → AreSound name (ret_taken l m n e d).entries
      by true t = rw t (sound_some _ _ d.entries s (λ x. refl) (λ x t f. counted_formed (returned m n x).allocation x f (receives_link l x t)))
      by false t = rw t s

    -- ---- all commands

    pub sound_taken : (c : Command) → IsCommand c → NewNumber name c d.entries → AreSound name (desk_taken peer busy stamp c d).entries
    sound_taken (command.Rts receive send l) i new = rts_sound send receive l (odd_is send i.3) new (list_any (sends_on l) d.entries) refl
    sound_taken (command.Str send receive size) i new = str_by receive send size i.3 new (entry_at receive send d.entries) refl
    sound_taken (command.Cls foreign own) i new = cls_by own foreign (entry_at own foreign d.entries)
    sound_taken (command.All l m n) i new =
        at_end_sound (command.All l m n) (all_taken l m n) (sender_on l d) (λ e. sound_some (sends_on l) (granted m n) d.entries s (λ x. refl) (λ x t f. counted_formed (counters.granted x.allocation m n) x f (sends_link l x t)))
    sound_taken (command.Gvb l m n) i new =
        at_end_sound (command.Gvb l m n) (gvb_taken l m n) (sender_on l d) (λ e. sound_some (sends_on l) (given_back m n) d.entries s (λ x. refl) (λ x t f. counted_formed (counters.given_back x.allocation m n) x f (sends_link l x t)))
    sound_taken (command.Ret l m n) i new = at_end_sound (command.Ret l m n) (ret_taken l m n) (receiver_on l d) (ret_sound l m n)
    sound_taken (command.Inr l) i new = at_end_sound (command.Inr l) interrupted (sender_on l d) (λ e. s)
    sound_taken (command.Ins l) i new = at_end_sound (command.Ins l) interrupted (receiver_on l d) (λ e. s)
    sound_taken c i new = s
