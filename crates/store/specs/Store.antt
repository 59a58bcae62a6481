-- What any store means: eleven words, a sound mark and busy ticks.
use Rattle.std.specs.Prelude.{◌≡◌, ℕ, ◌-◌, ◌≤◌, Bool, true, cond, List, length, Ok, Err, Result, nat_lt}
use Rattle.settings.specs.Table.{factory_set}
use Rattle.store.specs.declared.terms.Busy.{Busy}

-- the meaning is the same for every store
pub record Kept : Type 0 where
  pub words : List ℕ
  pub sound : Bool
  pub busy : ℕ

abbrev pub kept : List ℕ → Bool → ℕ → Kept
kept words sound busy = record { words = words; sound = sound; busy = busy }

abbrev pub is_busy : Kept → Bool
is_busy k = nat_lt 0 k.busy

-- a put is refused while the store is busy; otherwise the words are the new set, sound, and it is busy for its write time
abbrev pub put_into : ℕ → List ℕ → Kept → Kept
put_into write_time ws k = cond (is_busy k) k (kept ws true write_time)

abbrev pub put_tells : Kept → Result (Unit {0}) Busy
put_tells k = cond (is_busy k) (Err (record {})) (Ok tt)

abbrev pub ticked : Kept → Kept
ticked k = kept k.words k.sound (k.busy - 1)

-- the settings in force
abbrev pub in_force : Kept → List ℕ
in_force k = cond k.sound k.words factory_set

-- What differs from store to store: the write time, and what becomes of its cells, which are all that it holds beside its
-- meaning, when a set is put and at a tick.
pub record StoreTerms (C : Type 0) : Type 0 where
  pub write_time : ℕ
  pub put : C → List ℕ → C
  pub tick : C → Kept → C

-- a refused put leaves the cells too
abbrev pub cells_put : {C : Type 0} → StoreTerms C → Kept → List ℕ → C → C
cells_put t k ws c = cond (is_busy k) c (t.put c ws)

-- what every store keeps
pub record StoreLaws {S C : Type 0} (t : StoreTerms C) (kept_of : S → Kept) : Type 0 where
  pub write_time : t.write_time ≤ 50
  pub busy : (s : S) → (kept_of s).busy ≤ 50
  pub eleven : (s : S) → length (kept_of s).words ≡ 11
