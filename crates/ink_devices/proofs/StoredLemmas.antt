-- Files that are kept: where a name stands, and what a write changes.
use Rattle.std.proofs.Common.{◌≡◌, ◌≢◌, ℕ, zero, suc, ◌<◌, ◌+◌, List, [], ◌∷◌, ◌++◌, length, Bool, true, false, cond, if◌then◌else◌, Option, None, Some, Vec, refl, sym, ◌∙◌, ap, arith, get_or, slice_set, take}
use Rattle.std.proofs.lemmas.List.{take_more}
use Rattle.std.specs.Str.{bytes_eq}
use Rattle.std.specs.declared.alloc.Global.{Global}
use Rattle.std.proofs.lemmas.Slice.Eq.{bytes_eq-Decides}
use Rattle.ink_devices.specs.Stored.{File, bytes_under, AreApart, IsAt}

pub bytes_eq-same : (one other : List ℕ) → one ≡ other → bytes_eq one other ≡ true
bytes_eq-same one other same = (bytes_eq-Decides one other).1 same

pub bytes_eq-other : (one other : List ℕ) → one ≢ other → bytes_eq one other ≡ false
bytes_eq-other one other differ =
    elim (bytes_eq one other) as (λ test. (test ≡ true → one ≡ other) → test ≡ false) [
      | true ↦ λ told. absurd (differ (told refl))
      | false ↦ λ _. refl
    ] ((bytes_eq-Decides one other).0)

if_none : (test : Bool) (bytes : List ℕ) (rest : Option (List ℕ)) → (if test then Some bytes else rest) ≡ None → (test ≡ false) × (rest ≡ None)
if_none true bytes rest none = cc
if_none false bytes rest none = (refl, none)

-- where a name is not, it is neither at the head nor behind it
pub absent_head : (file : File) (files : List File) (name : List ℕ) → bytes_under (file ∷ files) name ≡ None → (file.0 ≢ name) × (bytes_under files name ≡ None)
absent_head file files name none =
    let parts = if_none (bytes_eq file.0 name) file.1.items (bytes_under files name) none in
    ((λ same. let told = bytes_eq-same file.0 name same in let other = parts.0 in cc), parts.1)

-- the first index with the name
pub IsAt-first : (files : List File) (name : List ℕ) (index : ℕ) (default : File) → bytes_under (take index files) name ≡ None → index < length files → (get_or files index default).0 ≡ name → IsAt files name index
IsAt-first [] name index default none within same = absurd (omega arith)
IsAt-first (file ∷ files) name zero default none within same = same
IsAt-first (file ∷ files) name (suc index) default none within same =
    let parts = absent_head file (take index files) name none in
    (parts.0, IsAt-first files name index default parts.1 (omega arith) same)

-- what the file at the index holds
pub bytes_under-IsAt : (files : List File) (name : List ℕ) (index : ℕ) (default : File) → IsAt files name index → bytes_under files name ≡ Some (get_or files index default).1.items
bytes_under-IsAt [] name index default at = absurd at
bytes_under-IsAt (file ∷ files) name zero default at = rw (bytes_eq-same file.0 name at) refl
bytes_under-IsAt (file ∷ files) name (suc index) default at =
    rw (bytes_eq-other file.0 name at.0) (bytes_under-IsAt files name index default at.1)

pub IsAt-within : (files : List File) (name : List ℕ) (index : ℕ) → IsAt files name index → index < length files
IsAt-within [] name index at = absurd at
IsAt-within (file ∷ files) name zero at = omega arith
IsAt-within (file ∷ files) name (suc index) at = omega (arith, IsAt-within files name index at.1)

-- a write at that index
pub bytes_under-set : (files : List File) (name : List ℕ) (index : ℕ) (bytes : Vec ℕ Global) → IsAt files name index → bytes_under (slice_set files index (name, bytes)) name ≡ Some bytes.items
bytes_under-set [] name index bytes at = absurd at
bytes_under-set (file ∷ files) name zero bytes at = rw (bytes_eq-same name name refl) refl
bytes_under-set (file ∷ files) name (suc index) bytes at =
    rw (bytes_eq-other file.0 name at.0) (bytes_under-set files name index bytes at.1)

pub bytes_under-set_other : (files : List File) (name : List ℕ) (index : ℕ) (bytes : Vec ℕ Global) (other : List ℕ) → IsAt files name index → other ≢ name → bytes_under (slice_set files index (name, bytes)) other ≡ bytes_under files other
bytes_under-set_other [] name index bytes other at differ = absurd at
bytes_under-set_other (file ∷ files) name zero bytes other at differ =
    rw (bytes_eq-other name other (λ same. differ (sym same)), bytes_eq-other file.0 other (λ same. differ (sym same ∙ at))) refl
bytes_under-set_other (file ∷ files) name (suc index) bytes other at differ =
    ap (cond (bytes_eq file.0 other) (Some file.1.items)) (bytes_under-set_other files name index bytes other at.1 differ)

-- a file more at the end
pub bytes_under-push : (files : List File) (name : List ℕ) (bytes : Vec ℕ Global) → bytes_under files name ≡ None → bytes_under (files ++ (name, bytes) ∷ []) name ≡ Some bytes.items
bytes_under-push [] name bytes absent = rw (bytes_eq-same name name refl) refl
bytes_under-push (file ∷ files) name bytes absent =
    let parts = absent_head file files name absent in
    rw (bytes_eq-other file.0 name parts.0) (bytes_under-push files name bytes parts.1)

pub bytes_under-push_other : (files : List File) (name : List ℕ) (bytes : Vec ℕ Global) (other : List ℕ) → other ≢ name → bytes_under (files ++ (name, bytes) ∷ []) other ≡ bytes_under files other
bytes_under-push_other [] name bytes other differ = rw (bytes_eq-other name other (λ same. differ (sym same))) refl
bytes_under-push_other (file ∷ files) name bytes other differ =
    ap (cond (bytes_eq file.0 other) (Some file.1.items)) (bytes_under-push_other files name bytes other differ)

-- no write puts a name twice
pub AreApart-set : (files : List File) (name : List ℕ) (index : ℕ) (bytes : Vec ℕ Global) → IsAt files name index → AreApart files → AreApart (slice_set files index (name, bytes))
AreApart-set [] name index bytes at apart = absurd at
AreApart-set (file ∷ files) name zero bytes at apart = (ap (bytes_under files) (sym at) ∙ apart.0, apart.1)
AreApart-set (file ∷ files) name (suc index) bytes at apart =
    (bytes_under-set_other files name index bytes file.0 at.1 at.0 ∙ apart.0, AreApart-set files name index bytes at.1 apart.1)

pub AreApart-push : (files : List File) (name : List ℕ) (bytes : Vec ℕ Global) → bytes_under files name ≡ None → AreApart files → AreApart (files ++ (name, bytes) ∷ [])
AreApart-push [] name bytes absent apart = (refl, tt)
AreApart-push (file ∷ files) name bytes absent apart =
    let parts = absent_head file files name absent in
    (bytes_under-push_other files name bytes file.0 parts.0 ∙ apart.0, AreApart-push files name bytes parts.1 apart.1)

-- a name that is not among the first files, and not at the next index, is not among one more
pub bytes_under-take_more : (files : List File) (name : List ℕ) (index : ℕ) (default : File) → index < length files → bytes_under (take index files) name ≡ None → (get_or files index default).0 ≢ name → bytes_under (take (index + 1) files) name ≡ None
bytes_under-take_more files name index default within none differ =
    let next = get_or files index default in
    rw (take_more files index default within)
    (bytes_under-push_other (take index files) next.0 next.1 name (λ same. differ (sym same)) ∙ none)
