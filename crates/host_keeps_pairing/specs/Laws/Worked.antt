-- Worked rows.
use Rattle.std.specs.Prelude.{◌++◌, ◌+◌, ◌==◌, ◌∷◌, ◌≡◌, [], false, filter, if◌then◌else◌, map, None, Some, true}
use Rattle.interface.specs.Host.{same_host}
use Rattle.ncp_control.specs.declared.command.Command.TheVariants as command
use Rattle.ncp_control.specs.declared.phase.Phase.TheVariants as phase
use Rattle.host_pairs.specs.Commands.{asked_on_link}
use Rattle.host_pairs.specs.Control.{Legal, Wrong}
use Rattle.host_pairs.specs.Entries.{refused_end, sending_end}
use Rattle.host_pairs.specs.Pair.{opening_pair}
use Rattle.host_pairs.specs.declared.entry.Closing.TheVariants as closing
use Rattle.host_pairs.specs.declared.notice.Notice.TheVariants as notice
use Rattle.sockets.specs.Dialogue.{state_of}
use Rattle.sockets.specs.Pairs.{pair_with}
use Rattle.sockets.specs.Worked.{first, second, third}
use Rattle.sockets.specs.Worked as worked
use Rattle.sockets.specs.declared.request.Request.TheVariants as request
use Rattle.pairing_law.specs.Ends.{End, nothing}
use Rattle.pairing_law.specs.Marks.{Ask, Close}
use Rattle.host_keeps_pairing.specs.Ends.{due, end_of, HasEnd, IsSound, kept_in, Stand, standing, Standing}
use Rattle.host_keeps_pairing.specs.Hearing.{after_request, AreFree, AreJoint, NamesFreeLink}
use Rattle.host_keeps_pairing.specs.Known.{all_known, ArePartners, Knows}
use Rattle.host_keeps_pairing.specs.Openings.{all_lives_gone, all_lives_taken, AreAmong, with_openings}
use Rattle.host_keeps_pairing.specs.Words.{all_gone, all_taken, AllFit, marks, marks_in, MayAllGo}

-- Openings of which users are notified, and lives.
pub record WorkedOpenings : Type 0 where
  -- an opening of the two sockets is a life, the newest first; one of other sockets, or the same the other way, is none
  pub told :
      with_openings (λ p. p + 20) 16 33
      (notice.Opened 16 second 33 6 10 ∷ notice.Ended 16 second 33 ∷ notice.Opened 16 second 33 14 15 ∷ []) []
      ≡ record { own = 14; partner = 35 } ∷ record { own = 6; partner = 30 } ∷ []
  pub apart :
      with_openings (λ p. p) 16 33
      (notice.Opened 33 first 16 8 7 ∷ notice.Opened 16 second 35 6 10 ∷ notice.Opened 18 second 33 6 10 ∷ []) [] ≡ []
  -- the lives of what was said, and of what was heard
  pub said :
      all_lives_gone (Ask 6 ∷ Close ∷ []) (record { asked = None; partner = Some 8; gone = false; taken = false }) []
      ≡ record { own = 6; partner = 8 } ∷ []
  pub heard :
      all_lives_taken (Ask 8 ∷ Close ∷ []) (record { asked = Some 6; partner = None; gone = false; taken = false }) []
      ≡ record { own = 6; partner = 8 } ∷ []
  -- the request of the next connection makes no life with the partner of the last
  pub next_said :
      all_lives_gone (Close ∷ Ask 7 ∷ []) (record { asked = Some 3; partner = Some 4; gone = false; taken = true }) []
      ≡ []
  pub next_heard :
      all_lives_taken (Close ∷ Ask 7 ∷ []) (record { asked = Some 3; partner = Some 4; gone = true; taken = false }) []
      ≡ []
  -- some of others, in their order; not others, not in another order, and none twice
  pub some :
      AreAmong (record { own = 1; partner = 2 } ∷ record { own = 5; partner = 6 } ∷ [])
      (record { own = 1; partner = 2 } ∷ record { own = 3; partner = 4 } ∷ record { own = 5; partner = 6 } ∷ [])
  pub turned :
      AreAmong (record { own = 5; partner = 6 } ∷ record { own = 1; partner = 2 } ∷ [])
      (record { own = 1; partner = 2 } ∷ record { own = 5; partner = 6 } ∷ []) → ⊥
  pub twice :
      AreAmong (record { own = 1; partner = 2 } ∷ record { own = 1; partner = 2 } ∷ [])
      (record { own = 1; partner = 2 } ∷ []) → ⊥
  -- both programs of a dialogue report the life that the other's has, turned about
  pub dialogue :
      with_openings (λ p. if p == 10 then 8 else 0) 16 33
      (map (λ n. n.1)
      (filter (λ n. same_host first n.0)
      (worked.talk (worked.reset ++ worked.opening_connection ++ worked.closing)).notices)) []
      ≡ record { own = 6; partner = 8 } ∷ []

-- What a host's user knows of its end on socket 16, with socket 33 of host `second`.
pub record WorkedEndings : Type 0 where
  -- an opening is known by its two requests, the partner's by the place where it went out
  pub opened :
      all_known (λ p. p + 20) second 16 33 (notice.Opened 16 second 33 14 15 ∷ []) []
      ≡ record { own = 14; partner = 35 } ∷ []
  -- until the end is known to be over, or all connections with the peer are
  pub ended :
      all_known (λ p. p + 20) second 16 33 (notice.Opened 16 second 33 14 15 ∷ notice.Ended 16 second 33 ∷ []) [] ≡ []
  pub reset :
      all_known (λ p. p + 20) second 16 33 (notice.Opened 16 second 33 14 15 ∷ notice.PairReset second ∷ []) [] ≡ []
  -- the next opening is another one
  pub again :
      all_known (λ p. p + 20) second 16 33
      (notice.Opened 16 second 33 14 15 ∷ notice.Ended 16 second 33 ∷ notice.Opened 16 second 33 6 10 ∷ []) []
      ≡ record { own = 6; partner = 30 } ∷ []
  -- where none was known to be over, both are known; but no end is open by both
  pub twice :
      all_known (λ p. p + 20) second 16 33 (notice.Opened 16 second 33 14 15 ∷ notice.Opened 16 second 33 6 10 ∷ []) []
      ≡ record { own = 6; partner = 30 } ∷ record { own = 14; partner = 35 } ∷ []
  pub two :
      Knows (record { own = 6; partner = 8 } ∷ record { own = 6; partner = 4 } ∷ [])
      (record { asked = Some 6; partner = Some 8; gone = false; taken = false }) → ⊥
  -- ends of other sockets, of the same the other way and of another peer are others, and data report nothing
  pub sockets :
      all_known (λ p. p + 20) second 16 33
      (notice.Ended 33 second 16 ∷ notice.Ended 16 second 35 ∷ notice.Ended 18 second 33 ∷
      notice.Opened 33 second 16 8 7 ∷ notice.Opened 16 second 35 6 10 ∷ notice.Opened 18 second 33 6 10 ∷ [])
      (record { own = 14; partner = 35 } ∷ []) ≡ record { own = 14; partner = 35 } ∷ []
  pub peers :
      all_known (λ p. p + 20) second 16 33
      (notice.Ended 16 third 33 ∷ notice.PairReset third ∷ notice.Opened 16 third 33 6 10 ∷ [])
      (record { own = 14; partner = 35 } ∷ []) ≡ record { own = 14; partner = 35 } ∷ []
  pub «data» :
      all_known (λ p. p + 20) second 16 33
      (notice.Sent 16 (true ∷ []) ∷ notice.Arrived 16 (true ∷ []) ∷ notice.Interrupt 16 ∷ []) [] ≡ []
  -- an end that is known is open by these two requests, also while it closes; not by others, and not turned about
  pub «open» :
      Knows (record { own = 6; partner = 8 } ∷ [])
      (record { asked = Some 6; partner = Some 8; gone = true; taken = false })
  pub turned :
      Knows (record { own = 6; partner = 8 } ∷ [])
      (record { asked = Some 8; partner = Some 6; gone = false; taken = false }) → ⊥
  pub older :
      Knows (record { own = 6; partner = 8 } ∷ [])
      (record { asked = Some 6; partner = Some 4; gone = false; taken = false }) → ⊥
  -- one that waits for its partner isn't, nor is one that is over; where nothing is known nothing is said
  pub waiting :
      Knows (record { own = 6; partner = 8 } ∷ [])
      (record { asked = Some 6; partner = None; gone = false; taken = false }) → ⊥
  pub over : Knows (record { own = 6; partner = 8 } ∷ []) nothing → ⊥
  pub nobody : Knows [] (record { asked = Some 6; partner = Some 8; gone = false; taken = false })
  -- in a dialogue host `first` knows of its end while it is open
  pub dialogue :
      all_known (λ p. if p == 10 then 8 else 0) second 16 33
      (map (λ n. n.1)
      (filter (λ n. same_host first n.0) (worked.talk (worked.reset ++ worked.opening_connection)).notices)) []
      ≡ record { own = 6; partner = 8 } ∷ []
  pub closed :
      all_known (λ p. if p == 10 then 8 else 0) second 16 33
      (map (λ n. n.1)
      (filter (λ n. same_host first n.0)
      (worked.talk (worked.reset ++ worked.opening_connection ++ worked.closing)).notices)) [] ≡ []
  -- and `second` of its own, the other way about: each is the other's partner, and with another place neither is
  pub peer :
      all_known (λ p. if p == 7 then 6 else 0) first 33 16
      (map (λ n. n.1)
      (filter (λ n. same_host second n.0) (worked.talk (worked.reset ++ worked.opening_connection)).notices)) []
      ≡ record { own = 8; partner = 6 } ∷ []
  pub partners : ArePartners (record { own = 6; partner = 8 }) (record { own = 8; partner = 6 })
  pub apart : ArePartners (record { own = 6; partner = 8 }) (record { own = 8; partner = 4 }) → ⊥
  pub older_partner : ArePartners (record { own = 6; partner = 4 }) (record { own = 8; partner = 6 }) → ⊥

-- What commands say of two sockets.
pub record WorkedWords : Type 0 where
  -- the receiver of sockets 16 and 33 asks by an RTS, the sender by an STR, and each closes by a CLS
  pub receiver : marks 5 16 33 (command.Rts 16 33 2 ∷ command.Cls 16 33 ∷ []) ≡ Ask 5 ∷ Close ∷ []
  pub sender : marks 5 33 16 (command.Str 33 16 8 ∷ command.Cls 33 16 ∷ []) ≡ Ask 5 ∷ Close ∷ []
  -- nothing of that is said of the same sockets the other way, or of others
  pub apart :
      marks 5 33 16
      (command.Rts 16 33 2 ∷ command.Cls 16 33 ∷ command.Str 35 16 8 ∷ command.Str 33 18 8 ∷ command.All 2 1 100 ∷ [])
      ≡ []
  pub others :
      marks 5 16 33 (command.Rts 16 35 2 ∷ command.Rts 18 33 2 ∷ command.Cls 16 35 ∷ command.Cls 18 33 ∷ []) ≡ []
  -- an error that is read says nothing
  pub read : marks_in 5 16 33 (Wrong 1 (7 ∷ []) ∷ Legal (command.Cls 16 33) ∷ []) ≡ Close ∷ []
  -- one after the other, said and heard
  pub said :
      all_gone (Ask 5 ∷ Close ∷ []) nothing ≡ record { asked = Some 5; partner = None; gone = true; taken = false }
  pub heard :
      all_taken (Ask 5 ∷ Close ∷ []) nothing ≡ record { asked = None; partner = Some 5; gone = false; taken = true }
  -- a CLS that ends the connection, and the request of the next one
  pub next_said :
      all_gone (Close ∷ Ask 7 ∷ []) (record { asked = Some 3; partner = Some 4; gone = false; taken = true })
      ≡ record { asked = Some 7; partner = None; gone = false; taken = false }
  pub next_heard :
      all_taken (Close ∷ Ask 7 ∷ []) (record { asked = Some 3; partner = Some 4; gone = true; taken = false })
      ≡ record { asked = None; partner = Some 7; gone = false; taken = false }
  -- a request and its CLS may go out together, at a place that no request went out at before; two requests may not, and
  -- a CLS of nothing may not
  pub may : MayAllGo (Ask 5 ∷ Close ∷ []) nothing 5
  pub older : MayAllGo (Ask 5 ∷ []) nothing 6 → ⊥
  pub twice : MayAllGo (Ask 5 ∷ Ask 6 ∷ []) nothing 5 → ⊥
  pub same_place :
      MayAllGo (Ask 5 ∷ Close ∷ Ask 5 ∷ []) (record { asked = None; partner = Some 4; gone = false; taken = true }) 5 →
      ⊥
  pub nobody : MayAllGo (Close ∷ []) nothing 5 → ⊥
  -- a second request isn't in order, a CLS after the first is
  pub second : AllFit (Ask 5 ∷ Ask 6 ∷ []) nothing → ⊥
  pub fits : AllFit (Ask 5 ∷ Close ∷ []) nothing

-- Ends as the law has them.
pub record WorkedEnds : Type 0 where
  -- an end that this host opened asks; one that was closed before its request went out asks and closes
  pub new : due 5 (standing (sending_end 33 16 8)) ≡ Ask 5 ∷ []
  pub called_off : due 5 (standing (record (sending_end 33 16 8) { closing = closing.Queued })) ≡ Ask 5 ∷ Close ∷ []
  -- one that drains has nothing to say yet, and one whose CLS has gone out has nothing more to say
  pub draining : due 5 (standing (record (sending_end 33 16 8) { asked = Some 3; closing = closing.Due })) ≡ []
  pub said : due 5 (standing (record (sending_end 33 16 8) { asked = Some 3; closing = closing.Sent })) ≡ []
  -- that of a request which is refused closes and doesn't ask; its partner's request went out where the place of its
  -- taking says
  pub refusing : due 5 (standing (refused_end 33 16 9)) ≡ Close ∷ []
  pub refused :
      end_of (λ p. p + 20) (standing (refused_end 33 16 9))
      ≡ record { asked = None; partner = Some 29; gone = false; taken = false }
  -- once both CLS have passed there is none
  pub past :
      end_of (λ p. p)
      (record { mine = true; asked = Some 3; partner = Some 5; closing = closing.Sent; partner_closed = true })
      ≡ nothing
  -- a CLS before the own request, a foreign end that doesn't close or that has asked, and two ends of the same sockets
  -- are refused
  pub early :
      IsSound true
      (record { mine = true; asked = None; partner = Some 5; closing = closing.Sent; partner_closed = false }) → ⊥
  pub kept :
      IsSound true
      (record { mine = false; asked = None; partner = Some 5; closing = closing.No; partner_closed = false }) → ⊥
  pub stranger :
      IsSound true
      (record { mine = false; asked = Some 3; partner = Some 5; closing = closing.Queued; partner_closed = false }) → ⊥
  pub twins : (s : Standing) (x : End) → Stand true (λ p. p) 5 (s ∷ s ∷ []) [] x → ⊥
  -- nor does one whose CLS have both passed, once it is to be swept
  pub swept :
      IsSound true
      (record { mine = true; asked = Some 3; partner = Some 5; closing = closing.Sent; partner_closed = true }) → ⊥
  pub unswept :
      IsSound false
      (record { mine = true; asked = Some 3; partner = Some 5; closing = closing.Sent; partner_closed = true })
  -- where there is no end the law has none, and an end that has to ask has its request in the queue
  pub nobody : Stand true (λ p. p) 5 [] [] (record { asked = Some 3; partner = None; gone = false; taken = false }) → ⊥
  pub silent : (x : End) → Stand true (λ p. p) 5 (standing (sending_end 33 16 8) ∷ []) [] x → ⊥
  pub unlike :
      Stand true (λ p. p) 5 (standing (sending_end 33 16 8) ∷ []) (Ask 5 ∷ [])
      (record { asked = Some 3; partner = None; gone = false; taken = false }) → ⊥
  -- a request of which nobody knows doesn't wait
  pub stray : (x : End) → Stand true (λ p. p) 5 [] (Ask 5 ∷ []) x → ⊥
  -- a pair that isn't ready has no end
  pub unready :
      HasEnd (λ p. p) 33 16 (record opening_pair { entries = record (sending_end 33 16 8) { asked = Some 3 } ∷ [] })
      (record { asked = Some 3; partner = None; gone = false; taken = false }) → ⊥

-- What a host finds.
pub record WorkedFinding : Type 0 where
  -- a link that a sending end has isn't free, another is
  pub used : NamesFreeLink (command.Rts 18 35 2) (asked_on_link 7 2 (sending_end 33 16 8) ∷ []) → ⊥
  pub free : NamesFreeLink (command.Rts 18 35 3) (asked_on_link 7 2 (sending_end 33 16 8) ∷ [])
  -- a link that an RTS took in the same message isn't free for the next
  pub taken_up :
      AreFree second 7 (Legal (command.Rts 16 33 2) ∷ Legal (command.Rts 18 35 2) ∷ [])
      (record {
        pair = record opening_pair { phase = phase.Ready };
        listening = record { socket = 33; size = 8 } ∷ [];
        notices = [];
      }) → ⊥
  -- an RST doesn't occur among other commands
  pub alone : AreJoint (Legal command.Nop ∷ Legal command.Rst ∷ []) → ⊥
  pub reply_alone : AreJoint (Legal command.Nop ∷ Legal command.Rrp ∷ []) → ⊥
  pub joint : AreJoint (Legal command.Nop ∷ Wrong 1 (7 ∷ []) ∷ [])
  -- a contact drops the ends with its peer, and with no other
  pub dropped :
      after_request second (request.Contact second)
      (record { asked = Some 3; partner = None; gone = false; taken = false }) ≡ nothing
  pub others :
      after_request third (request.Contact second)
      (record { asked = Some 3; partner = None; gone = false; taken = false })
      ≡ record { asked = Some 3; partner = None; gone = false; taken = false }
  -- a pair that isn't ready keeps none
  pub left : kept_in opening_pair (record { asked = Some 3; partner = None; gone = false; taken = false }) ≡ nothing
  pub stays :
      kept_in (record opening_pair { phase = phase.Ready })
      (record { asked = Some 3; partner = None; gone = false; taken = false })
      ≡ record { asked = Some 3; partner = None; gone = false; taken = false }

-- Programs in a dialogue: host `first` receives on socket 16 what `second` sends from 33.
pub record WorkedPrograms : Type 0 where
  -- its RTS goes out at place 6, and the STR that went out at place 8 is taken at place 10
  pub receiver :
      HasEnd (λ p. if p == 10 then 8 else 0) 16 33
      (pair_with second (state_of (worked.talk (worked.reset ++ worked.opening_connection)) first).peers)
      (record { asked = Some 6; partner = Some 8; gone = false; taken = false })
  -- the sender took the RTS at place 7
  pub sender :
      HasEnd (λ p. if p == 7 then 6 else 0) 33 16
      (pair_with first (state_of (worked.talk (worked.reset ++ worked.opening_connection)) second).peers)
      (record { asked = Some 8; partner = Some 6; gone = false; taken = false })
  -- after a CLS each way neither has an end
  pub closed :
      HasEnd (λ p. p) 16 33
      (pair_with second
      (state_of (worked.talk (worked.reset ++ worked.opening_connection ++ worked.closing)) first).peers) nothing
  pub over :
      HasEnd (λ p. p) 33 16
      (pair_with first
      (state_of (worked.talk (worked.reset ++ worked.opening_connection ++ worked.closing)) second).peers) nothing
