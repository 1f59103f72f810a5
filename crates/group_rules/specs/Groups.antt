-- 02 k, independent groups: which entries belong together, and a patch resolved group by group. Groups share no unit, so none writes what another
-- reads or wants written, and their edits may stand one behind the other.
use Rattle.std.specs.Prelude.{ℕ, ◌+◌, ◌<◌, ◌≡◌, Bool, true, List, [], ◌∷◌, ◌++◌, map, eqb, ltb, length, get_or}
use Rattle.entity.specs.Logic.{pick, or, no, any_in, has, meets, indices}
use Rattle.reginfo.specs.RegInfo.{RegInfo, place_units}
use Rattle.reginfo.specs.Refused.{Condition, first_of}
use Rattle.function.specs.Function.{Function}
use Rattle.rules.specs.Edit.{Edit, filter}
use Rattle.rules.specs.Scratch.{Cache}
use Rattle.rules.specs.Patch.{Entry, move, remat, Patch, nothing_sorted, Answer, refused, resolved, unless_refused, sorted, patch_conditions, resolve}
use Rattle.rules.specs.Refusals.{entries_conditions}

-- two labels become the lesser one
-- the lesser, so that a group is labelled by its first entry
unfoldable pub join : ℕ → ℕ → List ℕ → List ℕ
join a b ls = map (λ x. pick (or (eqb x a) (eqb x b)) (pick (ltb a b) a b) x) ls

module _ {A : Type 0} (near : A → A → Bool) where
  -- two of a list "belong together exactly if" they are near, "or if other entries link them in a chain"
  pub data Together (d : A) (l : List A) : ℕ → ℕ → Type 0 where
    self : (i : ℕ) → Together d l i i
    link : (i j : ℕ) → i < length l → j < length l → near (get_or l i d) (get_or l j d) ≡ true → Together d l i j
    chain : (i k j : ℕ) → Together d l i k → Together d l k j → Together d l i j

  -- e, which stands at n, is joined with each before it that is near it: those from i on are left. A chain that e closes joins two groups at once,
  -- since all that have the label get the new one.
  unfoldable pub join_all : ℕ → A → ℕ → List A → List ℕ → List ℕ
  join_all n e i [] ls = ls
  join_all n e i (x ∷ l) ls = join_all n e (i + 1) l (pick (near x e) (join (get_or ls i 0) (get_or ls n 0) ls) ls)

  -- the labels of those before, and then of each of l
  unfoldable pub labels_from : List A → List ℕ → List A → List ℕ
  labels_from before ls [] = ls
  labels_from before ls (e ∷ l) = labels_from (before ++ (e ∷ [])) (join_all (length before) e 0 before (ls ++ (length before ∷ []))) l

  -- of each the number of the first that it is together with
  unfoldable pub labels : List A → List ℕ
  labels l = labels_from [] [] l

-- the first entries of the groups: "Groups go in the order of their first entry"
unfoldable pub firsts : List ℕ → List ℕ
firsts ls = filter (λ g. eqb (get_or ls g 0) g) (indices 0 (length ls))

-- the entries whose label passes
unfoldable pub chosen : (ℕ → Bool) → List ℕ → List Entry → List Entry
chosen q [] es = []
chosen q (x ∷ ls) [] = []
chosen q (x ∷ ls) (e ∷ es) = pick (q x) (e ∷ chosen q ls es) (chosen q ls es)

module _ (t : RegInfo) where
  -- of a move that becomes a rebuild the source too, though nothing reads it: it is the entry's
  abbrev pub source_units : Entry → List ℕ
  source_units (move s d v) = place_units t s
  source_units (remat d v) = []

  abbrev pub entry_units : Entry → List ℕ
  entry_units (move s d v) = place_units t s ++ place_units t d
  entry_units (remat d v) = place_units t d

  -- "a unit of one's source or destination is in the other's source or destination"
  abbrev pub near : Entry → Entry → Bool
  near x y = meets (entry_units x) (entry_units y)

  -- a source of an entry labelled otherwise holds the unit
  abbrev pub held_by_another : List ℕ → List Entry → ℕ → ℕ → Bool
  held_by_another ls es g u = any_in (λ e. has u (source_units e)) (chosen (λ x. no (eqb x g)) ls es)

  -- the group labelled g, "as a patch of its entries alone, whose free units are those of the whole patch that no source of another group holds"
  -- A unit may be free and a source. If one group used it as scratch, another could find its value gone; the group that reads it knows when it is
  -- read. Every other free unit may serve all groups, one after the other.
  unfoldable pub part : Patch → List ℕ → ℕ → Patch
  part p ls g =
      record { free = filter (λ u. no (held_by_another ls p.entries g u)) p.free; entries = chosen (λ x. eqb x g) ls p.entries }

  abbrev pub labels_of : Patch → List ℕ
  labels_of p = labels near p.entries

  unfoldable pub parts : Patch → List Patch
  parts p = map (part p (labels_of p)) (firsts (labels_of p))

-- 02 d: of two positions the greater
abbrev pub greater : ℕ → ℕ → ℕ
greater m n = pick (ltb m n) n m

-- "The groups' edits are joined in that order."
abbrev pub behind : List Edit → ℕ → Answer → Answer
behind es m (refused n) = refused n
behind es m (resolved fs c n) = resolved (es ++ fs) c (greater m n)

-- "a 17 in one refuses them all"
abbrev pub followed_by : Answer → (Cache → Answer) → Answer
followed_by (refused n) next = refused n
followed_by (resolved es c m) next = behind es m (next c)

module _ (t : RegInfo) (f : Function) where
  -- one after the other, each with the cache that the one before left, so that a slot made for one serves the next
  unfoldable pub resolve_parts : List Patch → ℕ → Cache → Answer
  resolve_parts [] room c = resolved [] c 0
  resolve_parts (q ∷ l) room c = followed_by (resolve t f q room c) (λ c'. resolve_parts l room c')

  -- what is tested of the whole patch before any group runs: all but 17
  abbrev pub whole_conditions : Patch → ℕ → List Condition
  whole_conditions p room = entries_conditions t f p.entries nothing_sorted ++ patch_conditions t f p room (sorted t f p)

  -- "each is resolved as a patch of its entries alone"; the whole patch is tested first, as for `resolve`
  -- So the number given is the whole patch's. Behind these tests a group can be refused by 17 alone (`OnlySlots` of Refusals).
  unfoldable pub resolve_by_groups : Patch → ℕ → Cache → Answer
  resolve_by_groups p room c = unless_refused (first_of (whole_conditions p room)) (resolve_parts (parts t p) room c)
