mod Serving
mod Returning
mod Stopping
mod Arriving
mod Offering
mod Assembling
