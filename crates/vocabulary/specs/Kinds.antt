-- The word of each kind, as its bytes.
use Rattle.std.specs.Prelude.{ℕ, List, codes}
use Rattle.vocabulary.specs.declared.kind.Kind.{Kind}
use Rattle.vocabulary.specs.declared.kind.ElementKind.{ElementKind}

abbrev pub word_of : Kind → List ℕ
word_of Kind.Post = codes "post"
word_of Kind.Fetch = codes "fetch"
word_of Kind.None = codes "none"

abbrev pub element_word : ElementKind → List ℕ
element_word ElementKind.Bundle = codes "bundle"
element_word ElementKind.Landing = codes "landing"
