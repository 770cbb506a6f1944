-- What the steps of calls do to the two sides of each flow.
use Rattle.imp_node.proofs.Common.{cases_Bool, same_flow, Flow, Answer, Fate, Noted, Release, Standing, Message, Told, State, HostState, no_host, host_at, is_up, with_host, last, outstanding}
use Rattle.std.proofs.Common.{◌≡◌, ℕ, zero, suc, Bool, true, false, List, [], ◌∷◌, ◌++◌, get_or, set, Option, Some, None, refl, ap, sym, ◌∙◌, subst, cond, ◌==◌, ◌⊎◌, inl, inr, eqb-true}
use Rattle.std.specs.FinMap as finite
use Rattle.std.specs.Option.{option_map}
use Rattle.interface.proofs.lemmas.{same_flow-refl}
use Rattle.link_table.specs.Flows.{Sources, Destinations, last_in, outstanding_in, release_in, begun, flow_answered, given_up, handed, ended, ended_in}
use Rattle.link_table.specs.declared.source.Release.TheVariants as release
use Rattle.link_table.specs.declared.source.Standing.TheVariants as standing
use Rattle.link_table.proofs.lemmas.{answered_frees, answered_last, get_answered, get_begun, get_ended, get_given_up, get_put, given_up_frees, given_up_last, handed_last, handed_outstanding}
use Rattle.imp_node.specs.Flows.{given, answer_queued, answered_by, freed, noted, fated, message_queued, next_number, with_begun}
use Rattle.imp_node.specs.Sides.{answers_of, messages_of, Sender, Receiver, sender, receiver, begun_with, told_with, ended_with, noted_with, fated_with, queued_with, AllUnmoved, Moved}

-- ---- lists

-- after one element was set, what the new one has as the old one had it is everywhere as before
pub same_at : {A X : Type 0} (F : A → X) (xs : List A) (h k : ℕ) (x d : A) → F x ≡ F (get_or xs h d) → F (get_or (set xs h x) k d) ≡ F (get_or xs k d)
same_at F [] h k x d same = refl
same_at F (y ∷ ys) zero zero x d same = same
same_at F (y ∷ ys) zero (suc k) x d same = refl
same_at F (y ∷ ys) (suc h) zero x d same = refl
same_at F (y ∷ ys) (suc h) (suc k) x d same = same_at F ys h k x d same

-- a host that is up is there, and what is set in its place is read again
pub set_there : (hosts : List HostState) (h : ℕ) (x : HostState) → (get_or hosts h no_host).up ≡ true → get_or (set hosts h x) h no_host ≡ x
set_there [] h x up = cc
set_there (y ∷ ys) zero x up = refl
set_there (y ∷ ys) (suc h) x up = set_there ys h x up

-- an answer of the flow comes after the others
answers_push : (f : Flow) (xs : List Told) (t : Told) → same_flow f t.flow ≡ true → answers_of f (xs ++ t ∷ []) ≡ answers_of f xs ++ t.kind ∷ []
answers_push f [] t same = rw same refl
answers_push f (x ∷ xs) t same = at (same_flow f x.flow) (answers_push f xs t same) where
  at : (b : Bool) → answers_of f (xs ++ t ∷ []) ≡ answers_of f xs ++ t.kind ∷ [] → cond b (x.kind ∷ answers_of f (xs ++ t ∷ [])) (answers_of f (xs ++ t ∷ [])) ≡ cond b (x.kind ∷ answers_of f xs) (answers_of f xs) ++ t.kind ∷ []
  at true rest = ap (λ (ys : List Answer). x.kind ∷ ys) rest
  at false rest = rest

-- an answer of another flow doesn't count
answers_beside : (f : Flow) (xs : List Told) (t : Told) → same_flow f t.flow ≡ false → answers_of f (xs ++ t ∷ []) ≡ answers_of f xs
answers_beside f [] t other = rw other refl
answers_beside f (x ∷ xs) t other = at (same_flow f x.flow) (answers_beside f xs t other) where
  at : (b : Bool) → answers_of f (xs ++ t ∷ []) ≡ answers_of f xs → cond b (x.kind ∷ answers_of f (xs ++ t ∷ [])) (answers_of f (xs ++ t ∷ [])) ≡ cond b (x.kind ∷ answers_of f xs) (answers_of f xs)
  at true rest = ap (λ (ys : List Answer). x.kind ∷ ys) rest
  at false rest = rest

messages_push : (f : Flow) (xs : List Message) (m : Message) → same_flow f m.flow ≡ true → messages_of f (xs ++ m ∷ []) ≡ messages_of f xs ++ m ∷ []
messages_push f [] m same = rw same refl
messages_push f (x ∷ xs) m same = at (same_flow f x.flow) (messages_push f xs m same) where
  at : (b : Bool) → messages_of f (xs ++ m ∷ []) ≡ messages_of f xs ++ m ∷ [] → cond b (x ∷ messages_of f (xs ++ m ∷ [])) (messages_of f (xs ++ m ∷ [])) ≡ cond b (x ∷ messages_of f xs) (messages_of f xs) ++ m ∷ []
  at true rest = ap (λ (ys : List Message). x ∷ ys) rest
  at false rest = rest

messages_beside : (f : Flow) (xs : List Message) (m : Message) → same_flow f m.flow ≡ false → messages_of f (xs ++ m ∷ []) ≡ messages_of f xs
messages_beside f [] m other = rw other refl
messages_beside f (x ∷ xs) m other = at (same_flow f x.flow) (messages_beside f xs m other) where
  at : (b : Bool) → messages_of f (xs ++ m ∷ []) ≡ messages_of f xs → cond b (x ∷ messages_of f (xs ++ m ∷ [])) (messages_of f (xs ++ m ∷ [])) ≡ cond b (x ∷ messages_of f xs) (messages_of f xs)
  at true rest = ap (λ (ys : List Message). x ∷ ys) rest
  at false rest = rest

-- ---- sides, field by field

pub same_sender : (a b : Bool) (l m o p : Option ℕ) (xs ys : List Answer) → a ≡ b → l ≡ m → o ≡ p → xs ≡ ys
    → (let u : Sender = record { source = a; last = l; outstanding = o; answers = xs } in let v : Sender = record { source = b; last = m; outstanding = p; answers = ys } in u ≡ v)
same_sender a b l m o p xs ys e f g h = rw (e, f, g, h) refl

pub same_receiver : (a b : Bool) (k l : Option Noted) (ms ns : List Message) → a ≡ b → k ≡ l → ms ≡ ns
    → (let u : Receiver = record { destination = a; kept = k; queue = ms } in let v : Receiver = record { destination = b; kept = l; queue = ns } in u ≡ v)
same_receiver a b k l ms ns e f g = rw (e, f, g) refl

-- ---- an answer waits, or its host is down

-- an answer is given to a host: of the host's fields only the answers change
given_answers : (g : Flow) (h : HostState) (t : Told) → same_flow g t.flow ≡ false → answers_of g (given h t).answers ≡ answers_of g h.answers
given_answers g h t other = at h.up where
  at : (b : Bool) → answers_of g (cond b (h.answers ++ t ∷ []) h.answers) ≡ answers_of g h.answers
  at true = answers_beside g h.answers t other
  at false = refl

told_last : (b : Bool) (m : Sources) (f g : Flow) → last_in (finite.get (cond b m (handed m f)) g) ≡ last_in (finite.get m g)
told_last true m f g = refl
told_last false m f g = handed_last m f g

told_outstanding : (b : Bool) (m : Sources) (f g : Flow) → outstanding_in (finite.get (cond b m (handed m f)) g) ≡ outstanding_in (finite.get m g)
told_outstanding true m f g = refl
told_outstanding false m f g = handed_outstanding m f g

told_answers : (kind : Answer) (f : Flow) (s : State) → answers_of f (host_at (answer_queued kind f s) f.source.host).answers ≡ (told_with kind (sender s f)).answers
told_answers kind f s = by (is_up s _) refl where
  by : (b : Bool) → is_up s f.source.host ≡ b → answers_of f (host_at (answer_queued kind f s) f.source.host).answers ≡ (told_with kind (sender s f)).answers
  by true up =
      ap (λ (h : HostState). answers_of f h.answers) (set_there s.hosts f.source.host (given (host_at s f.source.host) (record { kind = kind; flow = f })) up)
      ∙ (rw up (answers_push f (host_at s f.source.host).answers (record { kind = kind; flow = f }) (same_flow-refl f)))
  by false down =
      same_at (λ (h : HostState). answers_of f h.answers) s.hosts f.source.host f.source.host (given (host_at s f.source.host) (record { kind = kind; flow = f })) no_host (rw down refl)
      ∙ (rw down refl)

pub told_here : (kind : Answer) (f : Flow) (s : State) → sender (answer_queued kind f s) f ≡ told_with kind (sender s f)
told_here kind f s =
    same_sender _ _ _ _ _ _
    _ _
    (same_at (λ (h : HostState). h.up) s.hosts f.source.host f.source.host (given (host_at s f.source.host) (record { kind = kind; flow = f })) no_host refl)
    (told_last _ _ f f)
    (told_outstanding _ _ f f)
    (told_answers kind f s)

told_elsewhere : (kind : Answer) (f g : Flow) (s : State) → same_flow g f ≡ false → sender (answer_queued kind f s) g ≡ sender s g
told_elsewhere kind f g s other =
    same_sender _ _ _ _ _ _
    _ _
    (same_at (λ (h : HostState). h.up) s.hosts f.source.host g.source.host (given (host_at s f.source.host) (record { kind = kind; flow = f })) no_host refl)
    (told_last _ _ f g)
    (told_outstanding _ _ f g)
    (same_at (λ (h : HostState). answers_of g h.answers) s.hosts f.source.host g.source.host (given (host_at s f.source.host) (record { kind = kind; flow = f })) no_host
    (given_answers g (host_at s f.source.host) (record { kind = kind; flow = f }) other))

told_receiver : (kind : Answer) (f g : Flow) (s : State) → receiver (answer_queued kind f s) g ≡ receiver s g
told_receiver kind f g s =
    same_receiver _ _ _ _
    _ _
    (same_at (λ (h : HostState). h.up) s.hosts f.source.host g.destination.host (given (host_at s f.source.host) (record { kind = kind; flow = f })) no_host refl) refl
    (same_at (λ (h : HostState). messages_of g h.queue) s.hosts f.source.host g.destination.host (given (host_at s f.source.host) (record { kind = kind; flow = f })) no_host refl)

pub told_moved : (kind : Answer) (f : Flow) (s : State) → Moved s (answer_queued kind f s) f (told_with kind (sender s f)) (receiver s f)
told_moved kind f s = record {
  sender = told_here kind f s;
  receiver = told_receiver kind f f s;
  others = λ g other. record { sender = told_elsewhere kind f g s other; receiver = told_receiver kind f g s };
}

-- ---- the numbers of a flow at its source

-- only the numbers change
numbered_moved : (s : State) (m : Sources) (f : Flow) (l o : Option ℕ) → last_in (finite.get m f) ≡ l → outstanding_in (finite.get m f) ≡ o
    → ((g : Flow) → same_flow g f ≡ false → finite.get m g ≡ finite.get s.sources g)
    → Moved s (record s { sources = m }) f (record (sender s f) { last = l; outstanding = o }) (receiver s f)
numbered_moved s m f l o here now others = record {
  sender = same_sender _ _ _ l _ o _ _ refl here now refl;
  receiver = refl;
  others = λ g other. record {
    sender = same_sender _ _ _ _ _ _ _ _ refl (ap last_in (others g other)) (ap outstanding_in (others g other)) refl;
    receiver = refl;
  };
}

-- of a map where one flow was changed
elsewhere : (b : Bool) (x y : Option Standing) → b ≡ false → cond b x y ≡ y
elsewhere b x y other = rw other refl

pub begun_moved : (f : Flow) (s : State) → Moved s (with_begun f s) f (begun_with (next_number s f) (sender s f)) (receiver s f)
begun_moved f s =
    let here : finite.get (begun s.sources f) f ≡ Some (standing.Outstanding (next_number s f)) = get_begun _ f f ∙ ap (λ (b : Bool). cond b (Some (standing.Outstanding (next_number s f))) (finite.get s.sources f)) (same_flow-refl f) in
    numbered_moved s _ f _ _ (ap last_in here) (ap outstanding_in here)
    (λ g other. get_begun s.sources f g ∙ elsewhere _ _ _ other)

answered_moved : (f : Flow) (n : ℕ) (s : State) → outstanding s f ≡ Some n → Moved s (record s { sources = flow_answered s.sources f n }) f (record (sender s f) { outstanding = None }) (receiver s f)
answered_moved f n s is =
    numbered_moved s _ f _ None (answered_last _ f f n) (answered_frees _ f n is)
    (λ g other. get_answered s.sources f g n ∙ elsewhere _ _ _ other)

pub given_up_moved : (f : Flow) (s : State) → Moved s (record s { sources = given_up s.sources f }) f (record (sender s f) { outstanding = None }) (receiver s f)
given_up_moved f s =
    numbered_moved s _ f _ None (given_up_last _ f f) (given_up_frees _ f)
    (λ g other. get_given_up s.sources f g ∙ elsewhere _ _ _ other)

-- an answer waits after the flow's message was ended
pub ended_moved : (kind : Answer) (f : Flow) (s t : State) → Moved s t f (record (sender s f) { outstanding = None }) (receiver s f) → Moved s (answer_queued kind f t) f (ended_with kind (sender s f)) (receiver s f)
ended_moved kind f s t ended = record {
  sender = told_here kind f t ∙ ap (told_with kind) ended.sender;
  receiver = told_receiver kind f f t ∙ ended.receiver;
  others = λ g other. record { sender = told_elsewhere kind f g t other ∙ (ended.others g other).sender; receiver = told_receiver kind f g t ∙ (ended.others g other).receiver };
}

-- ---- answers that come

released : (n : ℕ) (o : Option Standing) → release_in n o ≡ release.Freed → outstanding_in o ≡ Some n
released n None is = cc
released n (Some (standing.Idle l)) is = cc
released n (Some (standing.Answered l)) is = cc
released n (Some (standing.Outstanding l)) is = by (cases_Bool (l == n)) where
  by : ((l == n) ≡ true) ⊎ ((l == n) ≡ false) → Some l ≡ Some n
  by (inl e) = ap (λ (k : ℕ). Some k) (eqb-true l n e)
  by (inr e) = let stale : release.Stale ≡ release.Freed = rw e at is in cc

pub freed_moved : (kind : Answer) (f : Flow) (n : ℕ) (s : State) → release_in n (finite.get s.sources f) ≡ release.Freed → Moved s (freed kind f n s) f (ended_with kind (sender s f)) (receiver s f)
freed_moved kind f n s is =
    subst (λ (r : Release). Moved s (answered_by r kind f n s) f (ended_with kind (sender s f)) (receiver s f)) (sym is)
    (ended_moved kind f s _ (answered_moved f n s (released n _ is)))

unmoved_itself : (s : State) → AllUnmoved s s
unmoved_itself s f = record { sender = refl; receiver = refl }

pub stale_unmoved : (kind : Answer) (f : Flow) (n : ℕ) (s : State) → release_in n (finite.get s.sources f) ≡ release.Stale → AllUnmoved s (freed kind f n s)
stale_unmoved kind f n s is = subst (λ (r : Release). AllUnmoved s (answered_by r kind f n s)) (sym is) (unmoved_itself s)

-- ---- at the destination

-- one flow's number changes at its destination
kept_moved : (f : Flow) (s : State) (m : Destinations) (k : Option Noted) → finite.get m f ≡ k → ((g : Flow) → same_flow g f ≡ false → finite.get m g ≡ finite.get s.kept g)
    → Moved s (record s { kept = m }) f (sender s f) (record (receiver s f) { kept = k })
kept_moved f s m k here beside = record {
  sender = refl;
  receiver = same_receiver _ _ _ k _ _ refl here refl;
  others = λ g other. record {
    sender = refl;
    receiver = same_receiver _ _ _ _ _ _ refl (beside g other) refl;
  };
}

pub noted_moved : (f : Flow) (n : ℕ) (new : Fate) (s : State) → Moved s (noted f n new s) f (sender s f) (noted_with n new (receiver s f))
noted_moved f n new s =
    let is : Noted = record { number = n; fate = new } in
    kept_moved f s _ _ (get_put s.kept f f is ∙ ap (λ (b : Bool). cond b (Some is) (finite.get s.kept f)) (same_flow-refl f))
    (λ g other. get_put s.kept f g is ∙ rw other refl)

pub fated_moved : (f : Flow) (n : ℕ) (new : Fate) (s : State) → Moved s (fated f n new s) f (sender s f) (fated_with n new (receiver s f))
fated_moved f n new s =
    let is : Option Noted = option_map (ended_in n new) (finite.get s.kept f) in
    kept_moved f s _ is (get_ended s.kept f f n new ∙ ap (λ (b : Bool). cond b is (finite.get s.kept f)) (same_flow-refl f))
    (λ g other. get_ended s.kept f g n new ∙ rw other refl)

-- a host's queue is another one: nothing else of any flow changes
pub queue_sender : (s : State) (h : ℕ) (queue : List Message) (g : Flow) → sender (with_host s h (record (host_at s h) { queue = queue })) g ≡ sender s g
queue_sender s h queue g =
    let host : HostState = record (host_at s h) { queue = queue } in
    same_sender _ _ _ _ _ _
    _ _
    (same_at (λ (x : HostState). x.up) s.hosts h g.source.host host no_host refl) refl refl
    (same_at (λ (x : HostState). answers_of g x.answers) s.hosts h g.source.host host no_host refl)

pub queue_elsewhere : (s : State) (h : ℕ) (queue : List Message) (g : Flow) → messages_of g queue ≡ messages_of g (host_at s h).queue
    → receiver (with_host s h (record (host_at s h) { queue = queue })) g ≡ receiver s g
queue_elsewhere s h queue g same =
    let host : HostState = record (host_at s h) { queue = queue } in
    same_receiver _ _ _ _
    _ _
    (same_at (λ (x : HostState). x.up) s.hosts h g.destination.host host no_host refl) refl
    (same_at (λ (x : HostState). messages_of g x.queue) s.hosts h g.destination.host host no_host same)

pub queue_here : (s : State) (h : ℕ) (queue : List Message) (g : Flow) → g.destination.host ≡ h → is_up s h ≡ true
    → receiver (with_host s h (record (host_at s h) { queue = queue })) g ≡ record (receiver s g) { queue = messages_of g queue }
queue_here s h queue g at up =
    let host : HostState = record (host_at s h) { queue = queue } in
    let set : get_or (set s.hosts h host) g.destination.host no_host ≡ host = ap (λ (k : ℕ). get_or (set s.hosts h host) k no_host) at ∙ set_there _ h host up in
    same_receiver _ _ _ _
    _ _
    (same_at (λ (x : HostState). x.up) s.hosts h g.destination.host host no_host refl) refl
    (ap (λ (x : HostState). messages_of g x.queue) set)

pub queued_moved : (m : Message) (s : State) → is_up s m.flow.destination.host ≡ true → Moved s (message_queued m s) m.flow (sender s m.flow) (queued_with m (receiver s m.flow))
queued_moved m s up =
    let h : ℕ = m.flow.destination.host in
    let old : List Message = (host_at s m.flow.destination.host).queue in
    record {
      sender = queue_sender s h _ m.flow;
      receiver = queue_here s h _ m.flow refl up ∙ ap (λ (ms : List Message). let r : Receiver = record (receiver s m.flow) { queue = ms } in r) (messages_push m.flow old m (same_flow-refl m.flow));
      others = λ g other. record { sender = queue_sender s h _ g; receiver = queue_elsewhere s h _ g (messages_beside g old m other) };
    }
