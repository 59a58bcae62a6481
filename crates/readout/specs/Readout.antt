-- What a panel shows, as text.
use Rattle.std.specs.Prelude.{ℕ, Bool, if◌then◌else◌, not, ◌&&◌, List, [], ◌++◌, codes, decimal, Some, None, Option}
use Rattle.std.specs.List.{flat_map}
use Rattle.breaker.specs.declared.words.Order.{Order}
use Rattle.breaker.specs.Names.{order_name, position_name}
use Rattle.parts.specs.declared.panels.Panel.{Panel}

abbrev pub hand_name : Option Order → List ℕ
hand_name None = codes "empty"
hand_name (Some o) = order_name o

-- a text where something holds
abbrev pub where_so : Bool → List ℕ → List ℕ
where_so b text = if b then text else []

-- the orders that are not taken at present
abbrev pub bars_text : Panel → List ℕ
bars_text p =
    let o = p.bars_open in let c = p.bars_close in let r = p.bars_reset in
    where_so (not o && (not c && not r)) (codes " none")
    ++ (where_so o (codes " open") ++ (where_so c (codes " close") ++ where_so r (codes " reset")))

abbrev pub word_text : ℕ → List ℕ
word_text w = codes " " ++ decimal w

abbrev pub words_text : List ℕ → List ℕ
words_text ws = flat_map word_text ws

abbrev pub breaker_text : Panel → List ℕ
breaker_text p = position_name p.position ++ (codes ", " ++ ((if p.failed then codes "failed" else codes "ok") ++ (codes ", hand " ++ hand_name p.hand)))

abbrev pub store_text : Panel → List ℕ
store_text p = (if p.sound then codes "sound" else codes "unsound") ++ (codes ", busy " ++ decimal p.busy)

abbrev pub state_text : Panel → List ℕ
state_text p =
    codes "state: " ++ (breaker_text p ++ (codes ", settings" ++ (words_text p.settings.words
    ++ (codes ", bars" ++ (bars_text p ++ (codes ", " ++ store_text p))))))
