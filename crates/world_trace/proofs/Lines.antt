-- The pieces of a line.
use Rattle.world_trace.proofs.Common.{◌≡◌, ℕ, List, [], ◌∷◌, ◌++◌, codes, Option, ap, refl, subst, sym, ◌∙◌, append_assoc, Appends, ended_line, member, object, quoted}
use Rattle.replay.proofs.lemmas.{appends_more}

-- programs and services, and the end of a line
abbrev hosts : List ℕ → List ℕ → List ℕ
hosts programs services = codes ",\"programs\":" ++ (programs ++ (codes ",\"services\":" ++ (services ++ codes "}\n")))

-- ---- a line of an event

abbrev head : List ℕ → List ℕ → List ℕ → List ℕ → List ℕ
head line number round event = codes "{\"line\":" ++ (line ++ (codes ",\"number\":" ++ (number ++ (codes ",\"round\":" ++ (round ++ (codes ",\"event\":\"" ++ event))))))

abbrev outcome : List ℕ → List ℕ → List ℕ
outcome crossed printed = codes "\",\"crossed\":" ++ (crossed ++ (codes ",\"printed\":" ++ printed))

-- all one after the other, and the end of the line by itself
abbrev long_line : List ℕ → List ℕ → List ℕ → List ℕ → List ℕ → List ℕ → List ℕ → List ℕ → List ℕ → List ℕ
long_line line number round event crossed printed parts programs services =
    codes "{\"line\":" ++ (line ++ (codes ",\"number\":" ++ (number ++ (codes ",\"round\":" ++ (round ++ (codes ",\"event\":\"" ++ (event ++ (codes "\",\"crossed\":" ++ (crossed ++ (codes ",\"printed\":" ++ (printed ++ (codes ",\"parts\":" ++ (parts ++ (codes ",\"programs\":" ++ (programs ++ (codes ",\"services\":" ++ (services ++ (codes "}\n"))))))))))))))))))

abbrev bare_line : List ℕ → List ℕ → List ℕ → List ℕ → List ℕ → List ℕ → List ℕ → List ℕ → List ℕ → List ℕ
bare_line line number round event crossed printed parts programs services = codes "{\"line\":" ++ (line ++ (codes ",\"number\":" ++ (number ++ (codes ",\"round\":" ++ (round ++ (codes ",\"event\":\"" ++ (event ++ (codes "\"" ++ (codes ",\"crossed\":" ++ (crossed ++ (codes ",\"printed\":" ++ (printed ++ (codes ",\"parts\":" ++ (parts ++ (codes ",\"programs\":" ++ (programs ++ (codes ",\"services\":" ++ (services ++ codes "}"))))))))))))))))))

abbrev closed_line : List ℕ → List ℕ → List ℕ → List ℕ → List ℕ → List ℕ → List ℕ → List ℕ → List ℕ → List ℕ
closed_line line number round event crossed printed parts programs services = codes "{\"line\":" ++ (line ++ (codes ",\"number\":" ++ (number ++ (codes ",\"round\":" ++ (round ++ (codes ",\"event\":\"" ++ (event ++ (codes "\"" ++ (codes ",\"crossed\":" ++ (crossed ++ (codes ",\"printed\":" ++ (printed ++ (codes ",\"parts\":" ++ (parts ++ (codes ",\"programs\":" ++ (programs ++ (codes ",\"services\":" ++ (services ++ (codes "}" ++ 10 ∷ [])))))))))))))))))))

abbrev object_line : List ℕ → List ℕ → List ℕ → List ℕ → List ℕ → List ℕ → List ℕ → List ℕ → List ℕ → List ℕ
object_line line number round event crossed printed parts programs services =
    ended_line (object (member (codes "line") line
    ∷ member (codes "number") number
    ∷ member (codes "round") round
    ∷ member (codes "event") (quoted event)
    ∷ member (codes "crossed") crossed
    ∷ member (codes "printed") printed
    ∷ member (codes "parts") parts
    ∷ member (codes "programs") programs
    ∷ member (codes "services") services ∷ []))

line_pieces : (line number round event crossed printed parts programs services : List ℕ) → head line number round event ++ (outcome crossed printed ++ (codes ",\"parts\":" ++ (parts ++ hosts programs services)))
    ≡ long_line line number round event crossed printed parts programs services
line_pieces line number round event crossed printed parts programs services = simp append_assoc

line_words : (line number round event crossed printed parts programs services : List ℕ) → long_line line number round event crossed printed parts programs services ≡ closed_line line number round event crossed printed parts programs services
line_words line number round event crossed printed parts programs services = refl

line_end : (line number round event crossed printed parts programs services : List ℕ) → bare_line line number round event crossed printed parts programs services ++ 10 ∷ [] ≡ closed_line line number round event crossed printed parts programs services
line_end line number round event crossed printed parts programs services = simp append_assoc

-- a string has its end with it
line_object : (line number round event crossed printed parts programs services : List ℕ) → bare_line line number round event crossed printed parts programs services ++ 10 ∷ [] ≡ object_line line number round event crossed printed parts programs services
line_object line number round event crossed printed parts programs services = ap (λ xs. (codes "{\"line\":" ++ (line ++ (codes ",\"number\":" ++ (number ++ (codes ",\"round\":" ++ (round ++ (codes ",\"event\":\"" ++ (xs)))))))) ++ 10 ∷ []) (sym (append_assoc event (codes "\"") (codes ",\"crossed\":" ++ (crossed ++ (codes ",\"printed\":" ++ (printed ++ (codes ",\"parts\":" ++ (parts ++ (codes ",\"programs\":" ++ (programs ++ (codes ",\"services\":" ++ (services ++ codes "}"))))))))))))

pub line_printed : (line number round event crossed printed parts programs services : List ℕ) (a b c d e : Option (List ℕ)) → Appends a b (head line number round event) → Appends b c (outcome crossed printed) → Appends c d (codes ",\"parts\":") → Appends d e (parts ++ hosts programs services)
    → Appends a e (object_line line number round event crossed printed parts programs services)
line_printed line number round event crossed printed parts programs services a b c d e first second third last =
    subst (Appends a e) (line_pieces line number round event crossed printed parts programs services ∙ line_words line number round event crossed printed parts programs services ∙ sym (line_end line number round event crossed printed parts programs services) ∙ line_object line number round event crossed printed parts programs services)
    (appends_more a b e (head line number round event) (outcome crossed printed ++ (codes ",\"parts\":" ++ (parts ++ hosts programs services))) first
    (appends_more b c e (outcome crossed printed) (codes ",\"parts\":" ++ (parts ++ hosts programs services)) second
    (appends_more c d e (codes ",\"parts\":") (parts ++ hosts programs services) third last)))

-- ---- the first line

abbrev front : List ℕ → List ℕ → List ℕ → List ℕ → List ℕ
front carrier raw imps lines = codes "{\"trace\":3,\"carrier\":\"" ++ (carrier ++ (codes "\",\"raw\":" ++ (raw ++ (codes ",\"imps\":" ++ (imps ++ (codes ",\"lines\":" ++ (lines ++ codes ",\"parts\":")))))))

abbrev long_first : List ℕ → List ℕ → List ℕ → List ℕ → List ℕ → List ℕ → List ℕ → List ℕ
long_first carrier raw imps lines parts programs services =
    codes "{\"trace\":3,\"carrier\":\"" ++ (carrier ++ (codes "\",\"raw\":" ++ (raw ++ (codes ",\"imps\":" ++ (imps ++ (codes ",\"lines\":" ++ (lines ++ (codes ",\"parts\":" ++ (parts ++ (codes ",\"programs\":" ++ (programs ++ (codes ",\"services\":" ++ (services ++ (codes "}\n"))))))))))))))

abbrev bare_first : List ℕ → List ℕ → List ℕ → List ℕ → List ℕ → List ℕ → List ℕ → List ℕ
bare_first carrier raw imps lines parts programs services = codes "{\"trace\":3,\"carrier\":\"" ++ (carrier ++ (codes "\"" ++ (codes ",\"raw\":" ++ (raw ++ (codes ",\"imps\":" ++ (imps ++ (codes ",\"lines\":" ++ (lines ++ (codes ",\"parts\":" ++ (parts ++ (codes ",\"programs\":" ++ (programs ++ (codes ",\"services\":" ++ (services ++ codes "}"))))))))))))))

abbrev closed_first : List ℕ → List ℕ → List ℕ → List ℕ → List ℕ → List ℕ → List ℕ → List ℕ
closed_first carrier raw imps lines parts programs services = codes "{\"trace\":3,\"carrier\":\"" ++ (carrier ++ (codes "\"" ++ (codes ",\"raw\":" ++ (raw ++ (codes ",\"imps\":" ++ (imps ++ (codes ",\"lines\":" ++ (lines ++ (codes ",\"parts\":" ++ (parts ++ (codes ",\"programs\":" ++ (programs ++ (codes ",\"services\":" ++ (services ++ (codes "}" ++ 10 ∷ [])))))))))))))))

abbrev object_first : List ℕ → List ℕ → List ℕ → List ℕ → List ℕ → List ℕ → List ℕ → List ℕ
object_first carrier raw imps lines parts programs services =
    ended_line (object (member (codes "trace") (codes "3")
    ∷ member (codes "carrier") (quoted carrier)
    ∷ member (codes "raw") raw
    ∷ member (codes "imps") imps
    ∷ member (codes "lines") lines
    ∷ member (codes "parts") parts
    ∷ member (codes "programs") programs
    ∷ member (codes "services") services ∷ []))

first_pieces : (carrier raw imps lines parts programs services : List ℕ) → front carrier raw imps lines ++ (parts ++ hosts programs services) ≡ long_first carrier raw imps lines parts programs services
first_pieces carrier raw imps lines parts programs services = simp append_assoc

first_words : (carrier raw imps lines parts programs services : List ℕ) → long_first carrier raw imps lines parts programs services ≡ closed_first carrier raw imps lines parts programs services
first_words carrier raw imps lines parts programs services = refl

first_end : (carrier raw imps lines parts programs services : List ℕ) → bare_first carrier raw imps lines parts programs services ++ 10 ∷ [] ≡ closed_first carrier raw imps lines parts programs services
first_end carrier raw imps lines parts programs services = simp append_assoc

-- a string has its end with it
first_object : (carrier raw imps lines parts programs services : List ℕ) → bare_first carrier raw imps lines parts programs services ++ 10 ∷ [] ≡ object_first carrier raw imps lines parts programs services
first_object carrier raw imps lines parts programs services = ap (λ xs. (codes "{\"trace\":3,\"carrier\":\"" ++ (xs)) ++ 10 ∷ []) (sym (append_assoc carrier (codes "\"") (codes ",\"raw\":" ++ (raw ++ (codes ",\"imps\":" ++ (imps ++ (codes ",\"lines\":" ++ (lines ++ (codes ",\"parts\":" ++ (parts ++ (codes ",\"programs\":" ++ (programs ++ (codes ",\"services\":" ++ (services ++ codes "}"))))))))))))))

pub first_printed : (carrier raw imps lines parts programs services : List ℕ) (a b c : Option (List ℕ)) → Appends a b (front carrier raw imps lines) → Appends b c (parts ++ hosts programs services) → Appends a c (object_first carrier raw imps lines parts programs services)
first_printed carrier raw imps lines parts programs services a b c first last =
    subst (Appends a c) (first_pieces carrier raw imps lines parts programs services ∙ first_words carrier raw imps lines parts programs services ∙ sym (first_end carrier raw imps lines parts programs services) ∙ first_object carrier raw imps lines parts programs services)
    (appends_more a b c (front carrier raw imps lines) (parts ++ hosts programs services) first last)

-- ---- the end of a line

pub objects_printed : (parts programs services : List ℕ) (a b c d e f g : Option (List ℕ)) → Appends a b parts → Appends b c (codes ",\"programs\":") → Appends c d programs → Appends d e (codes ",\"services\":") → Appends e f services → Appends f g (codes "}\n")
    → Appends a g (parts ++ hosts programs services)
objects_printed parts programs services a b c d e f g first second third fourth fifth last =
    appends_more a b g parts (codes ",\"programs\":" ++ (programs ++ (codes ",\"services\":" ++ (services ++ codes "}\n")))) first
    (appends_more b c g (codes ",\"programs\":") (programs ++ (codes ",\"services\":" ++ (services ++ codes "}\n"))) second
    (appends_more c d g programs (codes ",\"services\":" ++ (services ++ codes "}\n")) third
    (appends_more d e g (codes ",\"services\":") (services ++ codes "}\n") fourth
    (appends_more e f g services (codes "}\n") fifth last))))

-- ---- and with strangers

abbrev foreign_hosts : List ℕ → List ℕ → List ℕ → List ℕ
foreign_hosts programs services foreign =
    codes ",\"programs\":" ++ (programs ++ (codes ",\"services\":" ++ (services ++ (codes ",\"foreign\":" ++ (foreign ++ codes "}\n")))))

-- services with what comes after them
abbrev and_foreign : List ℕ → List ℕ → List ℕ
and_foreign services foreign = services ++ (codes ",\"foreign\":" ++ foreign)

abbrev foreign_object : List ℕ → List ℕ → List ℕ → List ℕ → List ℕ → List ℕ → List ℕ → List ℕ → List ℕ
foreign_object carrier raw imps lines parts programs services foreign =
    ended_line (object (member (codes "trace") (codes "3")
    ∷ member (codes "carrier") (quoted carrier)
    ∷ member (codes "raw") raw
    ∷ member (codes "imps") imps
    ∷ member (codes "lines") lines
    ∷ member (codes "parts") parts
    ∷ member (codes "programs") programs
    ∷ member (codes "services") services
    ∷ member (codes "foreign") foreign ∷ []))

foreign_pieces : (parts programs services foreign : List ℕ)
    → parts ++ foreign_hosts programs services foreign ≡ parts ++ hosts programs (and_foreign services foreign)
foreign_pieces parts programs services foreign = simp append_assoc

foreign_whole : (carrier raw imps lines parts programs services foreign : List ℕ)
    → object_first carrier raw imps lines parts programs (and_foreign services foreign)
    ≡ foreign_object carrier raw imps lines parts programs services foreign
foreign_whole carrier raw imps lines parts programs services foreign = simp append_assoc

pub foreign_printed : (carrier raw imps lines parts programs services foreign : List ℕ) (a b c : Option (List ℕ))
    → Appends a b (front carrier raw imps lines) → Appends b c (parts ++ foreign_hosts programs services foreign)
    → Appends a c (foreign_object carrier raw imps lines parts programs services foreign)
foreign_printed carrier raw imps lines parts programs services foreign a b c first last =
    subst (Appends a c) (foreign_whole carrier raw imps lines parts programs services foreign)
    (first_printed carrier raw imps lines parts programs (and_foreign services foreign) a b c first
    (subst (Appends b c) (foreign_pieces parts programs services foreign) last))
