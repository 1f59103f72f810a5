-- 02 k: that the labels tell exactly which entries belong together, and each the first of its group.
use Rattle.std.specs.Prelude.{ℕ, ◌<◌, ◌≤◌, ◌≡◌, Bool, List, ◌↔◌, length, get_or}
use Rattle.group_rules.specs.Groups.{Together, labels}

abbrev pub Symmetric : {A : Type 0} → (A → A → Bool) → Type 0
Symmetric {A} near = (x y : A) → near x y ≡ near y x

module _ {A : Type 0} (near : A → A → Bool) (d : A) (l : List A) where
  pub record Labelled (ls : List ℕ) : Type 0 where
    pub each : length ls ≡ length l
    -- "Two entries belong together exactly if [..]"
    pub together : (i j : ℕ) → i < length l → j < length l → (get_or ls i 0 ≡ get_or ls j 0) ↔ Together near d l i j
    -- the label is the number of the first of them: none has a lesser one, and the one that it names has it
    pub first : (i : ℕ) → i < length l → get_or ls i 0 ≤ i
    pub named : (i : ℕ) → i < length l → get_or ls (get_or ls i 0) 0 ≡ get_or ls i 0

-- of any list, whatever is near
abbrev pub AllLabelled : Type 1
AllLabelled = (A : Type 0) (near : A → A → Bool) → Symmetric near → (d : A) (l : List A) → Labelled near d l (labels near l)

-- and no other list is so
-- so the labels are no choice of ours: whoever finds labels that tell this finds these
abbrev pub OneLabelling : Type 1
OneLabelling = (A : Type 0) (near : A → A → Bool) → Symmetric near → (d : A) (l : List A) (ls : List ℕ) → Labelled near d l ls → ls ≡ labels near l
