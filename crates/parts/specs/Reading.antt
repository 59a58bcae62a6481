-- An opening as the words of a script: BREAKER CONTACTS STORE … ADDRESS.
use Rattle.std.specs.Prelude.{ℕ, Bool, true, false, cond, ◌&&◌, List, [], ◌∷◌, length, take, Some, None, codes, Option, slice_index_or}
use Rattle.std.specs.Option.{option_map}
use Rattle.std.specs.Int.{w32, from_be_bytes}
use Rattle.std.specs.Str.{bytes_eq}
use Rattle.tokens.specs.Gathered.{and_then}
use Rattle.tokens.specs.Numbers.{number_in, hex_octets, word_values}
use Rattle.settings.specs.Table.{factory_set}
use Rattle.parts.specs.declared.kinds.BreakerKind.{BreakerKind}
use Rattle.parts.specs.declared.kinds.StoreImage.{StoreImage}
use Rattle.parts.specs.declared.kinds.Opening.{Opening}

abbrev pub kind_in : List ℕ → Option BreakerKind
kind_in w = cond (bytes_eq w (codes "motor")) (Some BreakerKind.Motor) (cond (bytes_eq w (codes "release")) (Some BreakerKind.Release) None)

-- a contact word is eight hexadecimal digits
abbrev pub contacts_in : List ℕ → Option ℕ
contacts_in w = option_map (from_be_bytes w32) (hex_octets 4 w)

abbrev pub mark_in : List ℕ → Option Bool
mark_in w = cond (bytes_eq w (codes "sound")) (Some true) (cond (bytes_eq w (codes "unsound")) (Some false) None)

abbrev pub battery_with : List ℕ → Bool → StoreImage
battery_with ws mark = StoreImage.Battery (record { words = ws }) mark

abbrev pub factory_store : StoreImage
factory_store = battery_with factory_set true

-- `battery factory`, or `eeprom` and its 23 octets
abbrev pub short_store : List ℕ → List ℕ → Option StoreImage
short_store name w =
    cond (bytes_eq name (codes "battery") && bytes_eq w (codes "factory")) (Some factory_store)
    (cond (bytes_eq name (codes "eeprom")) (and_then (hex_octets 23 w) (λ os. Some (StoreImage.Eeprom os))) None)

-- `battery`, a mark and eleven words
abbrev pub long_store : List ℕ → List ℕ → List (List ℕ) → Option StoreImage
long_store name w ws =
    cond (bytes_eq name (codes "battery"))
    (and_then (mark_in w) (λ mark. and_then (word_values 11 ws) (λ vs. Some (battery_with vs mark))))
    None

abbrev pub store_in : List (List ℕ) → Option StoreImage
store_in [] = None
store_in (name ∷ []) = None
store_in (name ∷ w ∷ []) = short_store name w
store_in (name ∷ w ∷ v ∷ vs) = long_store name w (v ∷ vs)

abbrev pub opening_of : List ℕ → List ℕ → List (List ℕ) → List ℕ → Option Opening
opening_of kind word store address =
    and_then (kind_in kind) (λ kind. and_then (contacts_in word) (λ word. and_then (store_in store) (λ store. and_then (number_in address) (λ address.
    Some (record { breaker = kind; contacts = word; store = store; address = address })))))

-- the store is told between the contact word and the address
abbrev pub opening_in : List (List ℕ) → Option Opening
opening_in (kind ∷ word ∷ w ∷ ws) =
    let last = length ws in
    opening_of kind word (take last (w ∷ ws)) (slice_index_or (w ∷ ws) last [])
opening_in ws = None

-- before a script opens a station: a motor breaker that is open, the factory settings, and the address 247
abbrev pub at_first : Opening
at_first = record { breaker = BreakerKind.Motor; contacts = 0; store = factory_store; address = 247 }
