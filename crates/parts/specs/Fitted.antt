-- A breaker and a store whose kinds are chosen at opening.
use Rattle.std.specs.Prelude.{ℕ, List}
use Rattle.breaker.specs.declared.contacts.Contacts.{Contacts}
use Rattle.breaker.specs.Contacts.{motor, release, started}
use Rattle.store.specs.Store.{Kept, kept}
use Rattle.store.specs.Stores.{kept_by_battery, kept_by_eeprom, opened}
use Rattle.parts.specs.declared.kinds.BreakerKind.{BreakerKind}
use Rattle.parts.specs.declared.kinds.StoreImage.{StoreImage}
use Rattle.parts.specs.declared.kinds.Opening.{Opening}
use Rattle.parts.specs.declared.panels.Panel.{Panel}
use Rattle.parts.specs.declared.fitted.AnyBreaker.{AnyBreaker}
use Rattle.parts.specs.declared.fitted.AnyStore.{AnyStore}
use Rattle.parts.specs.declared.fitted.Parts.{Parts}
use Rattle.parts.specs.Panel.{panel_of}

pub data FittedBreaker : Type 0 where
  by_motor : Contacts → FittedBreaker
  by_release : Contacts → FittedBreaker

-- a store by its meaning and its octets, if it has any
pub data FittedStore : Type 0 where
  on_battery : Kept → FittedStore
  on_eeprom : Kept → List ℕ → FittedStore

pub record Fitted : Type 0 where
  pub breaker : FittedBreaker
  pub store : FittedStore

abbrev pub breaker_of : AnyBreaker → FittedBreaker
breaker_of (AnyBreaker.Motor b) = by_motor b.contacts
breaker_of (AnyBreaker.Release b) = by_release b.contacts

abbrev pub store_of : AnyStore → FittedStore
store_of (AnyStore.Battery s) = on_battery (kept_by_battery s)
store_of (AnyStore.Eeprom s) = on_eeprom (kept_by_eeprom s) s.octets

abbrev pub fitted_of : Parts → Fitted
fitted_of p = record { breaker = breaker_of p.breaker; store = store_of p.store }

abbrev pub breaker_at : BreakerKind → ℕ → FittedBreaker
breaker_at BreakerKind.Motor word = by_motor (started word)
breaker_at BreakerKind.Release word = by_release (started word)

abbrev pub store_from : StoreImage → FittedStore
store_from (StoreImage.Battery s m) = on_battery (kept s.words m 0)
store_from (StoreImage.Eeprom os) = on_eeprom (opened os) os

abbrev pub fitted_by : Opening → Fitted
fitted_by o = record { breaker = breaker_at o.breaker o.contacts; store = store_from o.store }

abbrev pub kept_in : FittedStore → Kept
kept_in (on_battery k) = k
kept_in (on_eeprom k os) = k

abbrev pub panel_with : FittedBreaker → Kept → Panel
panel_with (by_motor f) k = panel_of motor f k
panel_with (by_release f) k = panel_of release f k

-- what a panel shows of them
abbrev pub panel_in : Fitted → Panel
panel_in p = panel_with p.breaker (kept_in p.store)
