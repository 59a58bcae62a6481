-- What an EEPROM store holds on the three ticks after a put.
use Rattle.std.specs.Prelude.{◌≡◌, ℕ, zero, suc, ◌*◌, ◌<◌, ◌≤◌, true, false, cond, List, length, ◌≢◌, nat_lt, slice_index, slice_set}
use Rattle.store.specs.Store.{Kept, kept, ticked, StoreTerms}
use Rattle.store.specs.Stores.{eeprom, image, opened}

-- the cells of a store after so many ticks
abbrev pub after_ticks : {C : Type 0} → StoreTerms C → ℕ → Kept → C → C
after_ticks t zero k c = c
after_ticks t (suc n) k c = after_ticks t n (ticked k) (t.tick c k)

-- the octets, so many ticks after a set was put over old ones
abbrev pub octets_after : ℕ → List ℕ → List ℕ → List ℕ
octets_after n ws old = after_ticks eeprom n (kept ws true eeprom.write_time) (eeprom.put old ws)

-- octet by octet, those below 8, 16 and 24 are new after one, two and three ticks, the others old
abbrev pub new_or_old : ℕ → List ℕ → List ℕ → ℕ → ℕ
new_or_old n ws old i = cond (nat_lt i (8 * n)) (slice_index (image ws) i) (slice_index old i)

-- octets that are read so many ticks after a put
abbrev pub ReadAfter : List ℕ → Type 0
ReadAfter os =
    (n : ℕ) (ws old : List ℕ) → n ≤ 3 → length ws ≡ 11 → length old ≡ 23 → os ≡ octets_after n ws old
    → (i : ℕ) → i < 23 → slice_index os i ≡ new_or_old n ws old i

-- a store opened from octets that were read after the third tick has the words that were put, sound
abbrev pub Recalled : List ℕ → Kept → Type 0
Recalled os k = (ws old : List ℕ) → length ws ≡ 11 → length old ≡ 23 → os ≡ octets_after 3 ws old → k ≡ kept ws true 0

-- octets that differ in one octet from some that are sound are not sound
abbrev pub DamageSeen : List ℕ → Kept → Type 0
DamageSeen os k =
    (whole : List ℕ) (i v : ℕ) → length whole ≡ 23 → (opened whole).sound ≡ true → i < 23 → slice_index whole i < 256 → v < 256
    → (v ≢ slice_index whole i) → os ≡ slice_set whole i v → k.sound ≡ false
