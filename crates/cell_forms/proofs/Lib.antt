mod Running
mod Fronts
mod Insides
mod Kept
mod Deciding
mod Single
mod Trees
