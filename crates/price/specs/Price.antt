-- 02 e: "Each target gives, beside the job, a price in quarter cycles, 0 to 65,535, for M, R, S and L."
use Rattle.std.specs.Prelude.{ℕ, ◌+◌, Bool, List, [], ◌∷◌, eqb, leb, get_or}
use Rattle.entity.specs.Logic.{pick, and}
use Rattle.rules.specs.Edit.{Edit, Move, Rematerialize, EmergencySpill, EmergencyReload}
use Rattle.edit.specs.Word.{kind_in}
use Rattle.price.specs.declared.Prices.{Prices}

-- as numbers, of M, R, S and L in this order
abbrev pub prices_in : List ℕ → Prices
prices_in l = record { moves = get_or l 0 0; remats = get_or l 1 0; spills = get_or l 2 0; reloads = get_or l 3 0 }

-- "0 to 65,535"
unfoldable pub in_range : Prices → Bool
in_range p = and (leb p.moves 65535) (and (leb p.remats 65535) (and (leb p.spills 65535) (leb p.reloads 65535)))

-- an edit's price goes by its kind alone
abbrev pub price_of : Prices → Edit → ℕ
price_of p (Move to from v) = p.moves
price_of p (Rematerialize to v) = p.remats
price_of p (EmergencySpill s r) = p.spills
price_of p (EmergencyReload r s) = p.reloads

-- of a word, by its kind: 1 is M, 2 R, 3 S, 4 L; 02 f: "An entry whose kind is none of the four costs nothing."
unfoldable pub price_in : Prices → ℕ → ℕ
price_in p w =
    pick (eqb (kind_in w) 1) p.moves
    (pick (eqb (kind_in w) 2) p.remats
    (pick (eqb (kind_in w) 3) p.spills
    (pick (eqb (kind_in w) 4) p.reloads 0)))

-- "The total is a whole number."
unfoldable pub total_of : Prices → List ℕ → ℕ
total_of p [] = 0
total_of p (w ∷ l) = price_in p w + total_of p l
