-- The eleven settings: a range, a factory value and a fail code for each.
use Rattle.std.specs.Prelude.{ℕ, List, [], ◌∷◌, map}
use Rattle.settings.specs.declared.table.Setting.{Setting}

abbrev pub setting : ℕ → ℕ → ℕ → ℕ → Setting
setting low high factory code = record { low = low; high = high; factory = factory; code = code }

abbrev pub settings : List Setting
settings =
    --        low high factory code
    setting 40 100 100 1031  -- 0 L threshold, % of the nominal current In
    ∷ setting 3 18 3 1033  -- 1 L time delay, s
    ∷ setting 0 1 0 1040  -- 2 S disable
    ∷ setting 0 1 0 1041  -- 3 S curve type
    ∷ setting 60 1000 200 1042  -- 4 S threshold, % of In
    ∷ setting 50 500 100 1043  -- 5 S time delay, ms
    ∷ setting 0 1 0 1050  -- 6 I disable
    ∷ setting 150 1200 400 1051  -- 7 I threshold, % of In
    ∷ setting 0 1 1 1060  -- 8 G disable
    ∷ setting 20 100 20 1062  -- 9 G threshold, % of In
    ∷ setting 100 800 100 1063  -- 10 G time delay, ms
    ∷ []

abbrev pub factory_set : List ℕ
factory_set = map (λ s. s.factory) settings
