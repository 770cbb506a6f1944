-- What holds of each end of a pair, by rules that take all changes alike that name no request: for the walk of Leaves.antt.
use Rattle.world_keeps_lives.proofs.Common.{Contains, Host, is_receive_socket, is_send_socket, Command, Legal, Order, PairState, Parcel, asked_at, cls_sent, Entry, Notice, contains_head, contains_tail}
use Rattle.std.proofs.Common.{◌≡◌, ℕ, zero, suc, ◌*◌, ◌<◌, Bool, false, if◌then◌else◌, List, [], ◌∷◌, ◌++◌, map, filter, find, take, length, slice_index_or, Some, None, refl, subst, arith, true}
use Rattle.host_pairs.specs.Commands.{asked_on_link, asked_with_size}
use Rattle.host_pairs.specs.Entries.{changed_first, closed_by_partner, closed_when, has_cls, is_ending, is_open, refused_end}
use Rattle.ncp_control.specs.declared.command.Command.TheVariants as command
use Rattle.host_pairs.specs.Parcels as parcel
use Rattle.host_pairs.specs.declared.notice.Notice.TheVariants as notice
use Rattle.host_keeps_pairing.proofs.lemmas.{due_still}

-- ---- lists

abbrev pub Each : {A : Type 0} → (A → Type 0) → List A → Type 0
Each Q [] = Unit {0}
Each Q (x ∷ xs) = Q x × Each Q xs

pub each_append : {A : Type 0} (Q : A → Type 0) (xs ys : List A) → Each Q xs → Each Q ys → Each Q (xs ++ ys)
each_append Q [] ys h k = k
each_append Q (x ∷ xs) ys h k = (h.0, each_append Q xs ys h.1 k)

pub each_weaker : {A : Type 0} (Q R : A → Type 0) (xs : List A) → ((x : A) → Q x → R x) → Each Q xs → Each R xs
each_weaker Q R [] k h = tt
each_weaker Q R (x ∷ xs) k h = (k x h.0, each_weaker Q R xs k h.1)

pub each_map : {A : Type 0} (Q : A → Type 0) (change : A → A) (xs : List A) → ((x : A) → Q x → Q (change x)) → Each Q xs
    → Each Q (map change xs)
each_map Q change [] k h = tt
each_map Q change (x ∷ xs) k h = (k x h.0, each_map Q change xs k h.1)

pub each_filter : {A : Type 0} (Q : A → Type 0) (test : A → Bool) (xs : List A) → Each Q xs → Each Q (filter test xs)
each_filter Q test [] h = tt
each_filter Q test (x ∷ xs) h = by (test x) refl (each_filter Q test xs h.1) where
  by : (b : Bool) → test x ≡ b → Each Q (filter test xs) → Each Q (filter test (x ∷ xs))
  by true t rest = rw t (h.0, rest)
  by false t rest = rw t rest

-- the first that passes is changed: what holds of it before gives what holds after, and so it is for the others
pub each_first : {A : Type 0} (Q R : A → Type 0) (test : A → Bool) (change : A → A) (xs : List A)
    → ((x : A) → Q x → R x)
    → ((x : A) → find test xs ≡ Some x → test x ≡ true → Q x → R (change x))
    → Each Q xs → Each R (changed_first test change xs)
each_first Q R test change [] stays k h = tt
each_first {A} Q R test change (x ∷ xs) stays k h =
    by (test x) refl k (λ l. each_first Q R test change xs stays l h.1) where
      by : (b : Bool) → test x ≡ b
          → ((y : A) → (if b then Some x else find test xs) ≡ Some y → test y ≡ true → Q y → R (change y))
          → (((y : A) → find test xs ≡ Some y → test y ≡ true → Q y → R (change y))
          → Each R (changed_first test change xs))
          → Each R (if b then change x ∷ xs else x ∷ changed_first test change xs)
      by true t l rest = (l x refl t h.0, each_weaker Q R xs stays h.1)
      by false t l rest = (stays x h.0, rest l)

pub each_changed : {A : Type 0} (Q : A → Type 0) (test : A → Bool) (change : A → A) (xs : List A)
    → ((x : A) → test x ≡ true → Q x → Q (change x)) → Each Q xs → Each Q (changed_first test change xs)
each_changed Q test change xs k h = each_first Q Q test change xs (λ x i. i) (λ x f t i. k x t i) h

pub each_at : {A : Type 0} (Q : A → Type 0) (xs : List A) (x : A) (i : ℕ) → i < length xs → slice_index_or xs i x ≡ x
    → Each Q xs → Q x
each_at Q [] x i less is h = absurd (omega (arith, less))
each_at Q (y ∷ xs) x zero less is h = subst Q is h.0
each_at Q (y ∷ xs) x (suc i) less is h = each_at Q xs x i (omega (arith, less)) is h.1

pub each_in : {A : Type 0} (Q : A → Type 0) (xs : List A) (x : A) → Contains xs x → Each Q xs → Q x
each_in Q xs x there h = each_at Q xs x there.0 there.1 there.2 h

pub each_of : {A : Type 0} (xs : List A) → Each (λ (x : A). Contains xs x) xs
each_of [] = tt
each_of {A} (x ∷ xs) = (contains_head x xs, each_weaker _ _ xs (λ y there. contains_tail x xs y there) (each_of xs))

pub found_in : {A : Type 0} (Q : A → Type 0) (test : A → Bool) (xs : List A) (x : A) → find test xs ≡ Some x → Each Q xs
    → Q x
found_in Q test [] x is h = absurd (let both : None ≡ Some x = is in cc)
found_in {A} Q test (y ∷ xs) x is h = by (test y) refl (λ k. found_in Q test xs x k h.1) where
  by : (b : Bool) → test y ≡ b → (find test xs ≡ Some x → Q x) → Q x
  by true t rest = let same : Some y ≡ Some x = rw t at is in let e : y ≡ x = cc in subst Q e h.0
  by false t rest = rest (rw t at is)

-- ---- changes that name no request

pub record Quiet (e f : Entry) : Type 0 where
  pub own : f.own ≡ e.own
  pub foreign : f.foreign ≡ e.foreign
  pub mine : f.mine ≡ e.mine
  pub asked : f.asked ≡ e.asked
  pub partner : f.partner ≡ e.partner
  pub link : f.link ≡ e.link
  pub closing : has_cls e.closing ≡ true → has_cls f.closing ≡ true
  pub off : e.partner_closed ≡ true → f.partner_closed ≡ true

pub quiet_when : (b : Bool) (e : Entry) → Quiet e (closed_when b e)
quiet_when true e = record { own = refl; foreign = refl; mine = refl; asked = refl; partner = refl; link = refl; closing = λ c. refl; off = λ c. c }
quiet_when false e = record { own = refl; foreign = refl; mine = refl; asked = refl; partner = refl; link = refl; closing = λ c. c; off = λ c. c }

pub quiet_off : (e : Entry) → Quiet e (closed_by_partner e)
quiet_off e = record { own = refl; foreign = refl; mine = refl; asked = refl; partner = refl; link = refl; closing = λ c. due_still e.closing c; off = λ c. refl }

-- a notice of no opening, of no data, and of nothing that is returned
abbrev pub IsOther : Notice → Type 0
IsOther (notice.Opened socket peer foreign own partner) = ⊥
IsOther (notice.Sent socket bits) = ⊥
IsOther (notice.Arrived socket bits) = ⊥
IsOther (notice.Returned socket messages bits) = ⊥
IsOther n = Unit {0}

-- what holds of each end, and of each notice
pub record Rules (P : Entry → Type 0) (N : Notice → Type 0) (peer : Host) : Type 0 where
  pub quiet : (e f : Entry) → Quiet e f → P e → P f
  pub others : (n : Notice) → IsOther n → N n
  pub opens : (e : Entry) (a b : ℕ) → P e → e.asked ≡ Some a → e.partner ≡ Some b → is_ending e ≡ false
      → N (notice.Opened e.own peer e.foreign a b)
  pub returns : (e : Entry) (messages bits : ℕ) → P e → is_open e ≡ true → N (notice.Returned e.own messages bits)

-- what holds of an end where it begins
pub record Begins (P : Entry → Type 0) : Type 0 where
  pub fresh : (e : Entry) → e.mine ≡ true → e.asked ≡ None → e.partner ≡ None → P e
  pub refused : (own foreign stamp : ℕ) → P (refused_end own foreign stamp)

-- a request of the peer is taken at this place
pub record Hears (P : Entry → Type 0) (stamp : ℕ) (orders : List Order) : Type 0 where
  pub begins : Begins P
  pub rts : (own foreign link : ℕ) (e : Entry) → Contains orders (Legal (command.Rts foreign own link))
      → is_receive_socket foreign ≡ true → is_send_socket own ≡ true → e.own ≡ own → e.foreign ≡ foreign → P e
      → P (asked_on_link stamp link e)
  pub str : (own foreign size : ℕ) (e : Entry) → Contains orders (Legal (command.Str foreign own size))
      → is_send_socket foreign ≡ true → is_receive_socket own ≡ true → e.own ≡ own → e.foreign ≡ foreign → P e
      → P (asked_with_size stamp size e)

-- a request of the host itself goes out at this place
pub record Goes (P : Entry → Type 0) (stamp : ℕ) (cs : List Command) : Type 0 where
  pub rts : (own foreign link : ℕ) (e : Entry) → Contains cs (command.Rts own foreign link)
      → is_receive_socket own ≡ true → e.own ≡ own → e.foreign ≡ foreign → P e → P (asked_at stamp e)
  pub str : (own foreign size : ℕ) (e : Entry) → Contains cs (command.Str own foreign size) → is_send_socket own ≡ true
      → e.own ≡ own → e.foreign ≡ foreign → P e → P (asked_at stamp e)

pub quiet_sent : (e : Entry) → Quiet e (cls_sent e)
quiet_sent e = record { own = refl; foreign = refl; mine = refl; asked = refl; partner = refl; link = refl; closing = λ c. refl; off = λ c. c }

module _ (P : Entry → Type 0) (N : Notice → Type 0) (peer : Host) (rules : Rules P N peer) where
  -- what goes out may: of commands each is by the rules, and what is reported of bits is so
  abbrev pub MayTell : ℕ → Parcel → PairState → Type 0
  MayTell stamp parcel.Reset q = Unit {0}
  MayTell stamp parcel.Reply q = Unit {0}
  MayTell stamp (parcel.Commands count) q = Goes P stamp (take count q.queue)
  MayTell stamp (parcel.Bytes e size count) q = N (notice.Sent e.own (take (size * count) e.bits))
