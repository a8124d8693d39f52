-- The plain list: it starts empty and is fed the orders that have a point, the lowest point first.
use Rattle.std.specs.Prelude.{ℕ, zero, suc, List, [], ◌∷◌, ◌++◌, Some, None, Option}
use Rattle.vocabulary.specs.declared.kind.Kind.{Kind}
use Rattle.promise.specs.Events.{Asked}
use Rattle.promise.specs.Books.{Book}

-- a post adds its element at the end, a fetch takes the first
abbrev pub fed : {T : Type 0} → Asked T → List T → List T
fed (Asked.post x) xs = xs ++ x ∷ []
fed Asked.fetch [] = []
fed Asked.fetch (x ∷ xs) = xs

-- what the plain list answers: the kind, and the element or its absence
abbrev pub kind_from : {T : Type 0} → Asked T → List T → Kind
kind_from (Asked.post x) xs = Kind.Post
kind_from Asked.fetch [] = Kind.None
kind_from Asked.fetch (x ∷ xs) = Kind.Fetch

abbrev pub element_from : {T : Type 0} → Asked T → List T → Option T
element_from (Asked.post x) xs = None
element_from Asked.fetch [] = None
element_from Asked.fetch (x ∷ xs) = Some x

-- the list after one number: it is fed the order that has the number as its point, if there is one
abbrev pub feed : {T : Type 0} → (ℕ → Asked T) → Option ℕ → List T → List T
feed asked None xs = xs
feed asked (Some i) xs = fed (asked i) xs

-- the list after all points up to a number
abbrev pub plain_by : {T : Type 0} → (ℕ → Asked T) → (ℕ → Option ℕ) → ℕ → List T
plain_by asked pointed zero = []
plain_by asked pointed (suc p) = feed asked (pointed (suc p)) (plain_by asked pointed p)

abbrev pub plain : {T : Type 0} → Book T → ℕ → List T
plain b p = plain_by b.asked b.pointed p
