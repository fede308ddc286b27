-- The binary form of f(a, g(a,b), c). Assumes nothing.
use mathlib.Core.Path.{◌≡◌, refl}
use Rattle.tree.specs.Tree.{leaf, join}
use Rattle.model.specs.Documents.{node, nil, cons, binary}

-- f(a, g(a,b), c) becomes ((f@a)@((g@a)@b))@c
example :
    binary
    (node 0
    (cons (node 1 nil) (cons (node 2 (cons (node 1 nil) (cons (node 3 nil) nil))) (cons (node 4 nil) nil))))
    ≡ join (join (join (leaf 0) (leaf 1)) (join (join (leaf 2) (leaf 1)) (leaf 3))) (leaf 4)
example = refl
