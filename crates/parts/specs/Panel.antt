-- What a panel shows of a breaker and a store.
use Rattle.breaker.specs.declared.words.Order.{Order}
use Rattle.breaker.specs.Terms.{BreakerTerms}
use Rattle.store.specs.Store.{Kept, in_force}
use Rattle.parts.specs.declared.panels.Panel.{Panel}

abbrev pub panel_of : {F : Type 0} → BreakerTerms F → F → Kept → Panel
panel_of t f k = record {
  position = t.position f;
  failed = t.fail f;
  hand = t.hand f;
  bars_open = t.bars f Order.Open;
  bars_close = t.bars f Order.Close;
  bars_reset = t.bars f Order.Reset;
  settings = record { words = in_force k };
  sound = k.sound;
  busy = k.busy;
}
