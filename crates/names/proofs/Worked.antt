-- Names as the documents print them, computed. Assumes nothing.
use mathlib.Core.Path.{◌≡◌, refl}
use mathlib.Core.List.{[], ◌∷◌}
use Rattle.words.specs.Words.{text}
use Rattle.names.specs.Names.{words, written, index, array_of, grid_of, prefixed}
use Rattle.satellites.specs.declared.Satellite.TheVariants.{HadesD, HadesIcm, MariaG, Unne1, HadesR, Unne1b, HadesSa}
use Rattle.layouts.specs.Layouts.{counted, among}
use Rattle.names.specs.Fields.{table, names_in, name_of, joined_names}

-- a string is its characters' codes
pub text-is : text "td" ≡ 116 ∷ 100 ∷ []
unfolding text
text-is = refl

-- a name as it stands, and of more than 16 letters the first 16
pub written_is : (written (text "td") ≡ 116 ∷ 100 ∷ []) × (written (text "abcdefghijklmnopqrst") ≡ text "abcdefghijklmnop")
unfolding text
written_is = (refl, refl)

-- the index goes up from 0
pub array-is : array_of (text "td") 3 ≡ text "td[0]" ∷ text "td[1]" ∷ text "td[2]" ∷ []
unfolding text index array_of
array-is = refl

-- the second index is the faster one
pub grid-is : grid_of (text "v") 2 2 ≡ text "v[0][0]" ∷ text "v[0][1]" ∷ text "v[1][0]" ∷ text "v[1][1]" ∷ []
unfolding text index array_of grid_of
grid-is = refl

-- an index of two digits
pub index_is : index 92 ≡ text "[92]"
unfolding text index
index_is = refl

-- each word has its prefix
pub words_are : prefixed "min" (words "tpa ttx2") ≡ text "mintpa" ∷ text "minttx2" ∷ []
unfolding text
words_are = refl

-- there is an empty part between two separators, and behind one that ends the text
pub parts_are : words "utc  adr " ≡ text "utc" ∷ [] ∷ text "adr" ∷ [] ∷ []
unfolding text
parts_are = refl

-- in a row there is a blank between two names, and none behind the last
pub row-is : joined_names (text "utc" ∷ text "adr" ∷ []) ≡ text "utc adr"
unfolding text
row-is = refl

-- "type 5 field 16 is maxtpeps on 1 to 4 and maxteps on 5 and 6 (field 15 of 0 is maxteps)"
pub maximum-of-document-1 : name_of HadesD 5 15 ≡ text "maxteps"
unfolding counted among table names_in text
maximum-of-document-1 = refl

pub maximum-of-document-2 : name_of HadesIcm 5 16 ≡ text "maxtpeps"
unfolding counted among table names_in text
maximum-of-document-2 = refl

pub maximum-of-document-4 : name_of Unne1b 5 16 ≡ text "maxteps"
unfolding counted among table names_in text
maximum-of-document-4 = refl

-- "type 12 field 6 is tle.xnnd6o on 1 to 4 and tle.xndd6o on 5 and 6"
pub element-of-document-2 : name_of HadesR 12 6 ≡ text "tle.xnnd6o"
unfolding counted among table names_in text
element-of-document-2 = refl

pub element-of-document-0 : name_of HadesSa 12 6 ≡ text "tle.xndd6o"
unfolding counted among table names_in text
element-of-document-0 = refl

-- the last light value of type 6, and the last character of type 7
pub last-light-is : name_of Unne1 6 53 ≡ text "v[7][5]"
unfolding counted among table names_in text index array_of grid_of
last-light-is = refl

pub last-character-is : name_of HadesIcm 7 94 ≡ text "data[92]"
unfolding counted among table names_in text index array_of
last-character-is = refl

-- behind the last field, and on a type that is not carried, the name is empty
pub no-field-is : name_of MariaG 11 3 ≡ []
unfolding counted among table names_in text
no-field-is = refl

pub not-carried-is : name_of HadesD 6 0 ≡ []
unfolding counted among table names_in text
not-carried-is = refl
