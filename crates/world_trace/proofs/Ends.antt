-- The pieces of an end and of a user.
use Rattle.world_trace.proofs.Common.{◌≡◌, ℕ, List, [], ◌∷◌, ◌++◌, codes, append_assoc}
use Rattle.trace.specs.Texts.{member, object, of_kind}

abbrev flat_end : List ℕ → List ℕ → List ℕ → List ℕ → List ℕ → List ℕ → List ℕ → List ℕ → List ℕ → List ℕ → List ℕ
flat_end own foreign kind mine requests closing link size allocation waiting =
    codes "{\"socket\":" ++ (own ++ (codes ",\"foreign\":" ++ (foreign ++ (codes ",\"kind\":" ++ (kind ++ (codes ",\"mine\":" ++ (mine ++ (codes ",\"requests\":" ++ (requests ++ (codes ",\"closing\":" ++ (closing
    ++ (codes ",\"link\":" ++ (link ++ (codes ",\"size\":" ++ (size ++ (codes ",\"allocation\":" ++ (allocation ++ (codes ",\"waiting\":" ++ (waiting ++ codes "}")))))))))))))))))))

end_pieces : (own foreign kind mine requests closing link size allocation waiting : List ℕ)
    → (codes "{\"socket\":" ++ (own ++ (codes ",\"foreign\":" ++ (foreign ++ (codes ",\"kind\":" ++ (kind ++ (codes ",\"mine\":" ++ mine)))))))
    ++ ((codes ",\"requests\":" ++ (requests ++ (codes ",\"closing\":" ++ (closing ++ (codes ",\"link\":" ++ (link ++ (codes ",\"size\":" ++ size))))))) ++ (codes ",\"allocation\":" ++ (allocation ++ (codes ",\"waiting\":" ++ (waiting ++ codes "}")))))
    ≡ flat_end own foreign kind mine requests closing link size allocation waiting
end_pieces own foreign kind mine requests closing link size allocation waiting = simp append_assoc

pub end_is : (own foreign kind mine requests closing link size allocation waiting : List ℕ)
    → (codes "{\"socket\":" ++ (own ++ (codes ",\"foreign\":" ++ (foreign ++ (codes ",\"kind\":" ++ (kind ++ (codes ",\"mine\":" ++ mine)))))))
    ++ ((codes ",\"requests\":" ++ (requests ++ (codes ",\"closing\":" ++ (closing ++ (codes ",\"link\":" ++ (link ++ (codes ",\"size\":" ++ size))))))) ++ (codes ",\"allocation\":" ++ (allocation ++ (codes ",\"waiting\":" ++ (waiting ++ codes "}")))))
    ≡ object (member (codes "socket") own ∷ member (codes "foreign") foreign ∷ member (codes "kind") kind ∷ member (codes "mine") mine ∷ member (codes "requests") requests ∷ member (codes "closing") closing
    ∷ member (codes "link") link ∷ member (codes "size") size ∷ member (codes "allocation") allocation ∷ member (codes "waiting") waiting ∷ [])
end_is own foreign kind mine requests closing link size allocation waiting = end_pieces own foreign kind mine requests closing link size allocation waiting

user_pieces : (asked sockets opened base came over : List ℕ) → (codes "{\"kind\":\"user\",\"asked\":" ++ (asked ++ (codes ",\"sockets\":" ++ (sockets ++ (codes ",\"opened\":" ++ opened)))))
    ++ (codes ",\"base\":" ++ (base ++ (codes ",\"came\":" ++ (came ++ (codes ",\"over\":" ++ (over ++ codes "}"))))))
    ≡ codes "{\"kind\":\"user\",\"asked\":" ++ (asked ++ (codes ",\"sockets\":" ++ (sockets ++ (codes ",\"opened\":" ++ (opened ++ (codes ",\"base\":" ++ (base ++ (codes ",\"came\":" ++ (came ++ (codes ",\"over\":" ++ (over ++ codes "}")))))))))))
user_pieces asked sockets opened base came over = simp append_assoc

pub user_is : (asked sockets opened base came over : List ℕ) → (codes "{\"kind\":\"user\",\"asked\":" ++ (asked ++ (codes ",\"sockets\":" ++ (sockets ++ (codes ",\"opened\":" ++ opened)))))
    ++ (codes ",\"base\":" ++ (base ++ (codes ",\"came\":" ++ (came ++ (codes ",\"over\":" ++ (over ++ codes "}"))))))
    ≡ of_kind (codes "user") (member (codes "asked") asked ∷ member (codes "sockets") sockets ∷ member (codes "opened") opened ∷ member (codes "base") base ∷ member (codes "came") came ∷ member (codes "over") over ∷ [])
user_is asked sockets opened base came over = user_pieces asked sockets opened base came over
