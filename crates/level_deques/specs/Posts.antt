-- Ready frames by rising level, in each level the newest last, and which of them is taken.
use Rattle.std.specs.Prelude.{ℕ, ◌&&◌, ◌||◌, Bool, false, nat_lt, nat_eq, not, if◌then◌else◌, List, [], ◌∷◌, Option, None, Some, reverse}
use Rattle.std.specs.List.{filter}
use Rattle.ids.specs.Names.{Grant}
use Rattle.level_deques.specs.declared.posts.Post.{Post}

-- with one more post, behind those of its level
abbrev pub posted : Post → List Post → List Post
posted p [] = p ∷ []
posted p (q ∷ qs) = if nat_lt p.level q.level then p ∷ q ∷ qs else q ∷ posted p qs

-- from the deepest level on, and in a level the newest first
abbrev pub by_depth : List Post → List Post
by_depth posts = reverse posts

-- whether a post is of a lesser level than another
abbrev pub goes_above : Post → Post → Bool
goes_above p q = nat_lt p.level q.level

-- whether a post is of a greater level than another
abbrev pub goes_below : Post → Post → Bool
goes_below p q = nat_lt q.level p.level

-- a post or what was chosen of newer ones, which has to be passed strictly
abbrev pub newest_of : (Post → Post → Bool) → Post → Option Post → Option Post
newest_of passes p None = Some p
newest_of passes p (Some q) = if passes p q then Some p else Some q

-- the newest of those that none passes
abbrev pub newest_by : (Post → Post → Bool) → List Post → Option Post
newest_by passes [] = None
newest_by passes (p ∷ ps) = newest_of passes p (newest_by passes ps)

-- the newest of the least level
abbrev pub shallowest : List Post → Option Post
shallowest posts = newest_by goes_above posts

-- the newest of the greatest level
abbrev pub deepest : List Post → Option Post
deepest posts = newest_by goes_below posts

-- the one to keep of the best so far and a newer one
abbrev pub pick : (Post → Post → Bool) → Option Post → Post → Post
pick passes None q = q
pick passes (Some p) q = if passes p q then p else q

-- whether a post is that of a frame
abbrev pub is_post_of : Grant → ℕ → Post → Bool
is_post_of g frame p = nat_eq p.grant.minter g.minter && (nat_eq p.grant.number g.number && nat_eq p.frame frame)

-- without the posts of a frame
abbrev pub withdrawn : Grant → ℕ → List Post → List Post
withdrawn g frame posts = filter (λ p. not (is_post_of g frame p)) posts

-- whether two posts are the same
abbrev pub is_post : Post → Post → Bool
is_post p q = nat_eq q.level p.level && is_post_of p.grant p.frame q

-- whether one of some posts is this one
abbrev pub is_posted : Post → List Post → Bool
is_posted p [] = false
is_posted p (q ∷ qs) = is_post p q || is_posted p qs

-- without the newest of those posts that are this one
abbrev pub without_post : Post → List Post → List Post
without_post p [] = []
without_post p (q ∷ qs) = if is_posted p qs then q ∷ without_post p qs else if is_post p q then qs else q ∷ qs

-- without the posts of the frame that a post names, if there is one
abbrev pub taken : Option Post → List Post → List Post
taken None posts = posts
taken (Some p) posts = withdrawn p.grant p.frame posts
