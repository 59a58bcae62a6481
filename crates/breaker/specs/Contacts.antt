-- The two breakers that read their contacts: what they are is their last contact word and their hand.
use Rattle.std.specs.Prelude.{ℕ, ◌/◌, ◌%◌, ◌^◌, Bool, true, false, if◌then◌else◌, not, ◌&&◌, ◌==◌, Some, None, Option}
use Rattle.breaker.specs.declared.words.Order.{Order}
use Rattle.breaker.specs.declared.words.Position.{Position}
use Rattle.breaker.specs.declared.contacts.Contact.{Contact}
use Rattle.breaker.specs.declared.contacts.Contacts.{Contacts}
use Rattle.breaker.specs.Terms.{BreakerTerms, is_refused}

abbrev pub contacts : ℕ → Option Order → Contacts
contacts word hand = record { word = word; hand = hand }

-- the bit that tells it
abbrev pub bit_of : Contact → ℕ
bit_of Contact.Closed = 0
bit_of Contact.Tripped = 1
bit_of Contact.Failed = 2
bit_of Contact.Hot = 3
bit_of Contact.TravelDone = 4

abbrev pub shows : Contact → ℕ → Bool
shows c word = word / 2 ^ bit_of c % 2 == 1

-- tripped wins over closed
abbrev pub position_at : ℕ → Position
position_at word = if shows Contact.Tripped word then Position.Tripped else (if shows Contact.Closed word then Position.Closed else Position.Open)

abbrev pub is_closed : Position → Bool
is_closed Position.Open = false
is_closed Position.Closed = true
is_closed Position.Tripped = false

-- close and reset are the motor's orders; opening needs none
abbrev pub by_motor : Order → Bool
by_motor Order.Open = false
by_motor Order.Close = true
by_motor Order.Reset = true

-- both start with an empty hand
abbrev pub started : ℕ → Contacts
started word = contacts word None

abbrev pub taken : Contacts → Bool → Order → Contacts
taken f barred o = if is_refused f.hand barred then f else contacts f.word (Some o)

abbrev pub let_go : Contacts → Contacts
let_go f = contacts f.word None

abbrev pub ticked : Contacts → Bool → ℕ → Contacts
ticked f ends word = contacts word (if ends then None else f.hand)

-- a breaker that bars the motor's orders at some contact words, and whose order ends at some
abbrev pub by_contacts : (ℕ → Bool) → (ℕ → Bool) → BreakerTerms Contacts
by_contacts barring ending = record {
  position = λ f. position_at f.word;
  fail = λ f. shows Contact.Failed f.word;
  hand = λ f. f.hand;
  bars = λ f o. by_motor o && barring f.word;
  take = λ f o. taken f (by_motor o && barring f.word) o;
  let_go = let_go;
  tick = λ f word. ticked f (ending word) word;
}

abbrev pub is_hot : ℕ → Bool
is_hot = shows Contact.Hot

abbrev pub travel_is_done : ℕ → Bool
travel_is_done = shows Contact.TravelDone

-- the motor breaker bars its orders while the motor is over 100 °C; an order ends when the travel is done
abbrev pub motor : BreakerTerms Contacts
motor = by_contacts is_hot travel_is_done

abbrev pub always : ℕ → Bool
always word = true

abbrev pub is_not_closed : ℕ → Bool
is_not_closed word = not (is_closed (position_at word))

-- the release breaker has no motor; its order ends at a position other than closed
abbrev pub release : BreakerTerms Contacts
release = by_contacts always is_not_closed
