-- What a breaker's words are called in text.
use Rattle.std.specs.Prelude.{ℕ, List, codes}
use Rattle.breaker.specs.declared.words.Order.{Order}
use Rattle.breaker.specs.declared.words.Position.{Position}

abbrev pub order_name : Order → List ℕ
order_name Order.Open = codes "open"
order_name Order.Close = codes "close"
order_name Order.Reset = codes "reset"

abbrev pub position_name : Position → List ℕ
position_name Position.Open = codes "open"
position_name Position.Closed = codes "closed"
position_name Position.Tripped = codes "tripped"
