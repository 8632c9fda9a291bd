-- Sums over two vectors in index order, each float operation rounded once (01, "Vectors"). Definitions only.
use Rattle.std.specs.Prelude.{List, [], ◌∷◌, Float}
use Rattle.std.specs.Float.{binary32}
use Rattle.std.specs.Float.Ieee.{add, sub, mul, of_bits}

-- +0.0, from which every sum starts
abbrev pub zero32 : Float
zero32 = of_bits binary32 0

-- acc, stepped by f with each pair of components, in order, up to the end of the shorter vector
unfoldable pub fold2 : (Float → Float → Float → Float) → Float → List Float → List Float → Float
fold2 f acc [] ys = acc
fold2 f acc (x ∷ xs) [] = acc
fold2 f acc (x ∷ xs) (y ∷ ys) = fold2 f (f acc x y) xs ys

-- acc + x y: the product is rounded, then the sum
abbrev pub dot_step : Float → Float → Float → Float
dot_step acc x y = add binary32 acc (mul binary32 x y)

-- the dot product
unfoldable pub dot_of : List Float → List Float → Float
dot_of xs ys = fold2 dot_step zero32 xs ys

-- acc + (x - y)(x - y): the difference is rounded, then its square, then the sum
abbrev pub dist_step : Float → Float → Float → Float
dist_step acc x y = add binary32 acc (mul binary32 (sub binary32 x y) (sub binary32 x y))

-- the sum of the squared differences, whose root is the distance
unfoldable pub squares_of : List Float → List Float → Float
squares_of xs ys = fold2 dist_step zero32 xs ys
