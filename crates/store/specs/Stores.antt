-- The two stores. The battery store is its meaning; the EEPROM store has 23 octets that follow behind.
use Rattle.std.specs.Prelude.{ℕ, ◌+◌, ◌-◌, ◌*◌, ◌%◌, cond, List, [], ◌∷◌, ◌++◌, take, drop, sum, ◌==◌, slice_index}
use Rattle.std.specs.List.{between}
use Rattle.words.specs.Words.{high_first, words_in}
use Rattle.store.specs.declared.memory.BatteryStore.{BatteryStore}
use Rattle.store.specs.declared.memory.EepromStore.{EepromStore}
use Rattle.store.specs.Store.{Kept, kept, is_busy, StoreTerms}

-- the battery store writes at once and has no cells
abbrev pub battery : StoreTerms (Unit {0})
battery = record { write_time = 0; put = λ c ws. c; tick = λ c k. c }

abbrev pub kept_by_battery : BatteryStore → Kept
kept_by_battery b = kept b.settings.words b.sound 0

abbrev pub kept_by_eeprom : EepromStore → Kept
kept_by_eeprom e = kept e.settings.words e.sound e.busy

-- the congruency octet: the low octet of the octets' sum plus 55h
abbrev pub congruency : List ℕ → ℕ
congruency os = (sum os + 0x55) % 256

-- eleven words, high octet first, and their congruency octet
abbrev pub image : List ℕ → List ℕ
image ws = high_first ws ++ (congruency (high_first ws) ∷ [])

-- what 23 octets mean at opening: sound exactly if the congruency octet fits
abbrev pub opened : List ℕ → Kept
opened os = kept (words_in os 11) (slice_index os 22 == congruency (take 22 os)) 0

-- eight octets of an image from a place on, over those that stood there
abbrev pub eight_at : ℕ → List ℕ → List ℕ → List ℕ
eight_at i new old = take i old ++ (between i (i + 8) new ++ drop (i + 8) old)

-- a set that is put is written at the next three ticks: eight, eight and seven octets
abbrev pub eeprom : StoreTerms (List ℕ)
eeprom = record {
  write_time = 3;
  put = λ os ws. os;
  tick = λ os k. cond (is_busy k) (eight_at (8 * (3 - k.busy)) (image k.words) os) os;
}
