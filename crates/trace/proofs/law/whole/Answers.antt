use Rattle.trace.proofs.Common.{◌≡◌, true, List, sym, subst, ◌∙◌, All-weaker, All, Boxes, WaitingAnswer, for_host, Host, is_host, AreQueues, IsTold, IsValidAnswer, IsFlowNamed, IsHostNamed, part_text}
use Rattle.interface.specs.declared.message.HostMessage.{HostMessage}
use Rattle.script.specs.Spelling.{IsHost, IsMessage}
use Rattle.trace.specs.Parts.{Part, Down, Waiting, IsPart}
use Rattle.trace.proofs.Queues.{same_queues}
use Rattle.trace.proofs.Named.{SameQueues, flow_named, host_named, hosts_spelled, queues_once}
use Rattle.trace.proofs.Keeping.{reached}
use Rattle.trace.proofs.law.whole.Goals as goal

all_hosts : (hs : List Host) → All IsHost hs → All IsHostNamed hs
all_hosts hs all = All-weaker IsHost IsHostNamed host_named hs all

all_messages : (ms : List HostMessage) → All IsMessage ms → All (λ m. IsFlowNamed m.flow) ms
all_messages ms all = All-weaker IsMessage (λ m. IsFlowNamed m.flow) (λ m is. flow_named m.flow is.0) ms all

all_answers : (xs : List WaitingAnswer) → All IsValidAnswer xs → All (λ a. IsFlowNamed a.1) xs
all_answers xs all = All-weaker IsValidAnswer (λ a. IsFlowNamed a.1) (λ a is. flow_named a.1 is) xs all

whole : (a b : Boxes) → IsTold a → IsTold b → a.hosts ≡ b.hosts → ((p : Part) → IsPart a.hosts p → part_text a p ≡ part_text b p) → b ≡ record a { log = b.log }
whole a b p q hosts texts =
    let down : a.down ≡ b.down = hosts_spelled.once a.down b.down (all_hosts a.down p.down) (all_hosts b.down q.down) (texts Down tt) in
    let at : (h : Host) → is_host a.hosts h ≡ true → SameQueues (for_host a.messages h) (for_host b.messages h) (for_host a.answers h) (for_host b.answers h) =
    λ h there. queues_once (for_host a.messages h) (for_host b.messages h) (for_host a.answers h) (for_host b.answers h)
    (all_messages (for_host a.messages h) (p.messages.valid h)) (all_messages (for_host b.messages h) (q.messages.valid h)) (all_answers (for_host a.answers h) (p.answers.valid h)) (all_answers (for_host b.answers h) (q.answers.valid h)) (texts (Waiting h) there) in
    let messages : a.messages ≡ b.messages = same_queues IsMessage a.hosts a.messages b.messages p.messages (subst (λ (hs : List Host). AreQueues IsMessage hs b.messages) (sym hosts) q.messages) (λ h there. (at h there).messages) in
    let answers : a.answers ≡ b.answers = same_queues IsValidAnswer a.hosts a.answers b.answers p.answers (subst (λ (hs : List Host). AreQueues IsValidAnswer hs b.answers) (sym hosts) q.answers) (λ h there. (at h there).answers) in
    let stopped : b.stopped ≡ a.stopped = q.running ∙ sym p.running in
    λ i. record { hosts = sym hosts i; down = sym down i; messages = sym messages i; answers = sym answers i; log = b.log; stopped = stopped i }

pub returns : goal.returns
returns c = record {
  texts = whole;
  reached = reached;
}
